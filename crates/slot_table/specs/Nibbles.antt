-- A word as eight fields of four bits.
use Rattle.std.specs.Prelude.{ℕ, ◌/◌, ◌%◌, List, [], ◌∷◌, slice_index_or}

-- the eight nibbles of a word, the lowest first
unfoldable pub nibbles : ℕ → List ℕ
nibbles w =
    w % 16 ∷ (w / 16) % 16 ∷ (w / 256) % 16 ∷ (w / 4096) % 16
    ∷ (w / 65536) % 16 ∷ (w / 1048576) % 16 ∷ (w / 16777216) % 16 ∷ (w / 268435456) % 16 ∷ []

-- one of the nibbles; past the eighth it is 15, which no register uses for a thread
abbrev pub nibble_at : ℕ → ℕ → ℕ
nibble_at w k = slice_index_or (nibbles w) k 15
