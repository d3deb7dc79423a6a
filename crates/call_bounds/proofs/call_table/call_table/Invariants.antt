use Rattle.call_bounds.specs.Build.{IsTableTo}
use Rattle.call_bounds.proofs.call_table.call_table.Given as goal

abbrev pub invariant-loop-function : goal.invariant-loop-function
invariant-loop-function l = IsTableTo l.code l.function l.table.items
