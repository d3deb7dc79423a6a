use Rattle.bound_calc.proofs.AdvanceLaws.{IsLargestBelow}
use Rattle.bound_calc.proofs.advanced.largest.Given as goal

abbrev pub invariant-loop-p : goal.invariant-loop-p
invariant-loop-p l = IsLargestBelow l.here l.p l.most l.largest
