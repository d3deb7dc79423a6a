use Rattle.call_bounds.specs.Build.{IsRowTo}
use Rattle.call_bounds.proofs.call_table.called_functions.Given as goal

abbrev pub invariant-loop-index : goal.invariant-loop-index
invariant-loop-index l = IsRowTo l.code l.draft l.index l.row.items
