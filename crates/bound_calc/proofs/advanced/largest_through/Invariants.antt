use Rattle.bound_calc.proofs.TopLaws.{IsLongestBelow}
use Rattle.bound_calc.proofs.advanced.largest_through.Given as goal

abbrev pub invariant-loop-r : goal.invariant-loop-r
invariant-loop-r l = IsLongestBelow l.here l.into l.r l.most l.largest
