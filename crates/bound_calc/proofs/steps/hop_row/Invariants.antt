use Rattle.std.proofs.Common.{◌≡◌, ℕ, ◌<◌, length}
use Rattle.region_tree.specs.Walk.{IsNextTurn}
use Rattle.bound_calc.specs.Bound.{positions}
use Rattle.bound_calc.specs.Hops.{Hops}
use Rattle.bound_calc.proofs.steps.hop_row.Given as goal

abbrev pub invariant-loop-position : goal.invariant-loop-position
invariant-loop-position l = record {
  count : length l.hops ≡ 8;
  found : (p d q : ℕ) → p < l.position → Hops l.hops p d q →
      IsNextTurn (positions l.slots l.thread) l.lag p d q;
  all : (p d q : ℕ) → p < l.position → IsNextTurn (positions l.slots l.thread) l.lag p d q →
      Hops l.hops p d q;
}
