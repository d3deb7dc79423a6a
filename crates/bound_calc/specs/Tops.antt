-- The largest of a number and the costs of a set.
use Rattle.std.specs.Prelude.{◌≡◌, ℕ, ◌≤◌, ◌⊎◌, min}
use Rattle.bound_calc.specs.Best.{Costs, ceiling}

-- the largest of an old number and the costs of a set, up to the ceiling of sums
pub record IsTop (f : Costs) (old new : ℕ) : Type 0 where
  pub stays : old ≤ new
  pub upper : (p c q : ℕ) → f p c q → min c ceiling ≤ new
  pub met : (new ≡ old)
      ⊎ ((p : ℕ) × (c : ℕ) × (q : ℕ) × f p c q × (min new ceiling ≡ min c ceiling))
