-- Lists of tests as numbers, a bit for each.
use Rattle.std.specs.Prelude.{ℕ, ◌+◌, ◌*◌, Bool, if◌then◌else◌, List, [], ◌∷◌}

abbrev pub bit_of : Bool → ℕ
bit_of set = if set then 1 else 0

-- a number whose bits are those of a list, the lowest first
unfoldable pub mask_of : List Bool → ℕ
mask_of [] = 0
mask_of (set ∷ more) = bit_of set + 2 * mask_of more
