use Rattle.std.proofs.Common.{◌≡◌, ◌<◌, ◌∙◌, Some, None, arith, sym}
use Rattle.std.proofs.lemmas.List.{get_or_default}
use Rattle.call_bounds.specs.Listing.{tree_at}
use Rattle.call_bounds.proofs.EscapeLaws.{escape-some}
use Rattle.call_bounds.proofs.escape.escape_from.Goals as goal

pub returns-in-Some : goal.returns-in-Some
returns-in-Some c =
    let at : tree_at c.args.trees.now c.args.function ≡ Some c.in-Some.tree =
    get_or_default c.args.trees.now c.args.function None c.index-trees-function.result c.requires
    ∙ (sym c.index-trees-function.is ∙ c.in-Some.is) in
    escape-some c.args.trees.now c.args.function c.in-Some.tree c.first_exit.result
    (let z : 0 < c.args.function = omega (arith, c.if-function-eq0.false) in
    z) at c.first_exit.ensures
