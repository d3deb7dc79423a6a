use Rattle.bound_calc.specs.Hops.{IsFarthest}
use Rattle.bound_calc.proofs.advanced.largest_advanced_row.Given as goal

abbrev pub invariant-loop-r : goal.invariant-loop-r
invariant-loop-r l = IsFarthest l.row l.hops.hops l.r l.most l.farthest
