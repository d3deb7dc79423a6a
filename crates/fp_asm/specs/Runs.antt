-- The maximal runs of placed addresses, and their words.
use Rattle.std.specs.Prelude.{◌≡◌, ℕ, zero, suc, ◌==◌, ◌+◌, ◌*◌, ◌/◌, ◌%◌, ◌≤◌}
use Rattle.std.specs.Prelude.{List, [], ◌∷◌, ◌++◌, if◌then◌else◌, unwrap_or, IsTrue}
use Rattle.std.specs.Ordering.{nat_cmp}
use Rattle.std.specs.BTreeMap.{is_at}
use Rattle.std.specs.Map.{lookup}
use Rattle.fp_image.specs.declared.parts.Segment.{Segment}
use Rattle.fp_asm.specs.First.{is_inside}
use Rattle.fp_asm.specs.Second.{Memory}
use Rattle.fp_asm.specs.declared.runs.Run.{Run}

-- the maximal runs of rising addresses, with a run of n words from a on before the list
unfoldable pub runs_from : ℕ → ℕ → List ℕ → List Run
runs_from a n [] = record { first = a; count = n } ∷ []
runs_from a n (b ∷ bs) =
    if b == a + 4 * n then runs_from a (n + 1) bs
    else record { first = a; count = n } ∷ runs_from b 1 bs

-- the maximal runs of rising addresses
unfoldable pub runs_of : List ℕ → List Run
runs_of [] = []
runs_of (a ∷ bs) = runs_from a 1 bs

-- the word that was written at an address, 0 if none was
abbrev pub word_at : Memory → ℕ → ℕ
word_at memory a = unwrap_or (lookup (is_at (nat_cmp a)) memory) 0

-- the four bytes of a word, the lowest first
abbrev pub word_bytes : ℕ → List ℕ
word_bytes w = w % 0x100 ∷ w / 0x100 % 0x100 ∷ w / 0x10000 % 0x100 ∷ w / 0x1000000 % 0x100 ∷ []

-- the bytes of n words from an address on
unfoldable pub bytes_from : Memory → ℕ → ℕ → List ℕ
bytes_from memory a zero = []
bytes_from memory a (suc n) = word_bytes (word_at memory a) ++ bytes_from memory (a + 4) n

-- a run as a segment, with the words that were written
abbrev pub segment_of : Memory → Run → Segment
segment_of memory r = record { address = r.first; bytes = bytes_from memory r.first r.count }

-- Addresses that may all be placed: they are in scratchpads, are multiples of four, and rise from a
-- number on.
abbrev pub ArePlaced : ℕ → List ℕ → Type 0
ArePlaced from [] = Unit {0}
ArePlaced from (a ∷ more) = (from ≤ a) × IsTrue (is_inside a) × (a % 4 ≡ 0) × ArePlaced (a + 4) more
