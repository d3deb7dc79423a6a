use Rattle.bound_calc.proofs.AdvanceLaws.{IsLeftBelow}
use Rattle.bound_calc.proofs.advanced.largest_advanced.Given as goal

abbrev pub invariant-loop-p : goal.invariant-loop-p
invariant-loop-p l = IsLeftBelow l.here l.hops.hops l.p l.most l.farthest
