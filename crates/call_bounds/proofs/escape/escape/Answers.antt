use Rattle.std.proofs.Common.{◌+◌, arith, sym, subst}
use Rattle.region_tree.specs.Search.{Before, LowestOf}
use Rattle.region_tree.proofs.LowestLaws.{lowest-next}
use Rattle.call_bounds.specs.Build.{EscapeFrom}
use Rattle.call_bounds.proofs.EscapeLaws.{escape-all}
use Rattle.call_bounds.proofs.escape.escape.Goals as goal

pub loop-function-preserved : goal.loop-function-preserved
loop-function-preserved c =
    subst (LowestOf (Before (EscapeFrom c.args.trees.now) (c.loop-function.function + 1)))
    (sym c.lower-found.ensures) (lowest-next (EscapeFrom c.args.trees.now) c.loop-function.function
    c.loop-function.found c.escape_from.result c.loop-function.invariant c.escape_from.ensures)

pub returns : goal.returns
returns c =
    escape-all c.args.code.now c.args.trees.now c.loop-function.function
    c.loop-function.found c.function_count-function-end.ensures.rules c.requires
    (omega (arith, c.function_count-function-end.ensures.value)) c.loop-function.invariant
