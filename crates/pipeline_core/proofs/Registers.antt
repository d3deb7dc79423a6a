-- Registers that stay as they are.
use Rattle.std.proofs.Common.{◌≡◌, ℕ, List, []}
use Rattle.std.specs.Prelude.{slice_index_or, slice_set}
use Rattle.std.proofs.lemmas.List.{set-get_or}

pub unwritten : (bank : List (List ℕ)) (k : ℕ) → slice_set bank k (slice_index_or bank k []) ≡ bank
unwritten bank k = set-get_or bank k []
