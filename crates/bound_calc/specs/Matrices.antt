-- Matrices of the largest sums between eight frame positions.
use Rattle.std.specs.Prelude.{◌≡◌, ℕ, zero, suc, ◌+◌, ◌<◌, min, max, [], Option}
use Rattle.std.specs.Prelude.{Some, None, slice_index_or, nat_lt, ◌&&◌, if◌then◌else◌}
use Rattle.bound_calc.specs.declared.matrix.Matrix.{Matrix}
use Rattle.bound_calc.specs.Best.{Entries, ceiling}

-- the entry for a position at the start and one at the end
abbrev pub cell : Matrix → ℕ → ℕ → Option ℕ
cell m p q = slice_index_or (slice_index_or m.best p []) q None

-- the same, and none where there is no such position
unfoldable pub entry : Matrix → Entries
entry m p q = if nat_lt p 8 && nat_lt q 8 then cell m p q else None

-- the larger of two sums, where there are any
unfoldable pub larger_of : Option ℕ → Option ℕ → Option ℕ
larger_of None y = y
larger_of (Some x) None = Some x
larger_of (Some x) (Some y) = Some (max x y)

-- one sum after the other, where there are both
unfoldable pub sum_of : Option ℕ → Option ℕ → Option ℕ
sum_of None y = None
sum_of (Some x) None = None
sum_of (Some x) (Some y) = Some (min (x + y) ceiling)

-- the largest sum of two over the positions below n
unfoldable pub over : ℕ → (ℕ → Option ℕ) → (ℕ → Option ℕ) → Option ℕ
over zero f g = None
over (suc n) f g = larger_of (over n f g) (sum_of (f n) (g n))

-- each entry is the larger one of two matrices
abbrev pub IsJoin : Matrix → Matrix → Matrix → Type 0
IsJoin a b m = (p q : ℕ) → p < 8 → q < 8 → cell m p q ≡ larger_of (cell a p q) (cell b p q)

-- each entry is the largest sum over the position between
abbrev pub IsProduct : Matrix → Matrix → Matrix → Type 0
IsProduct a b m =
    (p q : ℕ) → p < 8 → q < 8 → cell m p q ≡ over 8 (λ r. cell a p r) (λ r. cell b r q)
