-- A lemma on the pieces in which a slice is written.
use Rattle.std.proofs.Common.{◌≡◌, ℕ, ◌+◌, ◌-◌, List, ◌++◌, length, take}
use Rattle.std.proofs.Common.{drop, sym, ◌∙◌, ap, arith, length-drop}
use Rattle.std.proofs.Math.Seq.{take-add}
use Rattle.std.proofs.lemmas.List.{take_all}

-- the written bytes and a prefix of the rest are a longer prefix
pub take_piece : (bytes : List ℕ) (at count : ℕ) →
    take at bytes ++ take count (take (length bytes - at) (drop at bytes)) ≡ take (at + count) bytes
take_piece bytes at count =
    ap (λ (rest : List ℕ). take at bytes ++ take count rest)
    (take_all (length bytes - at) (drop at bytes) (omega (arith, length-drop at bytes)))
    ∙ sym (take-add at count bytes)
