use Rattle.std.proofs.Common.{◌≡◌, ℕ, ◌+◌, ◌<◌, ◌≤◌, ◌⊎◌, min, Some}
use Rattle.bound_calc.specs.Best.{ceiling}
use Rattle.bound_calc.specs.Matrices.{cell}
use Rattle.bound_calc.proofs.advanced.largest_column_on.Given as goal

abbrev pub invariant-loop-p : goal.invariant-loop-p
invariant-loop-p l = record {
  stays : l.most ≤ l.largest;
  upper : (k x : ℕ) → k < l.p → cell l.here k l.column ≡ Some x →
      min (x + l.onward) ceiling ≤ l.largest;
  met : (l.largest ≡ l.most) ⊎ ((k : ℕ) × (x : ℕ) × (k < l.p) × (cell l.here k l.column ≡ Some x)
      × (l.largest ≡ min (x + l.onward) ceiling));
}
