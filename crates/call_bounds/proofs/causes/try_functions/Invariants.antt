use Rattle.call_bounds.specs.Build.{AreTreesTo}
use Rattle.call_bounds.proofs.causes.try_functions.Given as goal

abbrev pub invariant-loop-function : goal.invariant-loop-function
invariant-loop-function l = AreTreesTo l.code l.function l.trees.items l.causes
