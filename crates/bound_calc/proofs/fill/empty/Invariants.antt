use Rattle.std.proofs.Common.{◌≡◌, ℕ, length, None}
use Rattle.bound_calc.specs.Propagation.{power_at}
use Rattle.bound_calc.proofs.fill.empty.Given as goal

abbrev pub invariant-loop-index : goal.invariant-loop-index
invariant-loop-index l = record {
  count : length l.powers.items ≡ l._index;
  none : (k : ℕ) → power_at l.powers.items k ≡ None;
}
