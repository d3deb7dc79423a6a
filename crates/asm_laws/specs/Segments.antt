-- The words of segments, and segments that can't be longer.
use Rattle.std.specs.Prelude.{◌≡◌, ℕ, ◌+◌, ◌*◌, ◌%◌, ◌<◌, ◌≤◌, ◌⊎◌, List, [], ◌∷◌}
use Rattle.std.specs.Prelude.{length, take, drop}
use Rattle.fp_image.specs.declared.parts.Segment.{Segment}

-- these four bytes are a word of a segment, at an address
abbrev pub IsWordOf : Segment → ℕ → List ℕ → Type 0
IsWordOf s a bytes =
    (i : ℕ) × (4 * i < length s.bytes) × (a ≡ s.address + 4 * i)
    × (bytes ≡ take 4 (drop (4 * i) s.bytes))

-- the same of one of the segments
abbrev pub IsWordIn : List Segment → ℕ → List ℕ → Type 0
IsWordIn [] a bytes = ⊥
IsWordIn (s ∷ ss) a bytes = IsWordOf s a bytes ⊎ IsWordIn ss a bytes

-- Maximal runs of words: each segment has words, and begins at an address or behind it. Between the
-- end of one and the next there is a byte that belongs to none.
abbrev pub AreMaximal : ℕ → List Segment → Type 0
AreMaximal from [] = Unit {0}
AreMaximal from (s ∷ ss) =
    (from ≤ s.address) × (s.address % 4 ≡ 0) × (length s.bytes % 4 ≡ 0) × (0 < length s.bytes)
    × AreMaximal (s.address + length s.bytes + 1) ss
