use Rattle.std.proofs.Common.{◌≡◌, ◌∙◌, false, true, sym}
use Rattle.call_bounds.proofs.TreeLaws.{tried-other, tried-refused, tried-tree}
use Rattle.call_bounds.proofs.causes.try_function.Goals as goal

pub returns-then-not-reached-function-clause-tried
    : goal.returns-then-not-reached-function-clause-tried
returns-then-not-reached-function-clause-tried c =
    tried-other c.args.code.now c.args.function
    (λ r. let z : false ≡ true = sym c.if-not-reached-function.true
    ∙ (c.requires.reached.exact c.args.function c.requires.function).1 r in cc)

pub returns-in-Ok-clause-tried : goal.returns-in-Ok-clause-tried
returns-in-Ok-clause-tried c =
    tried-tree c.args.code.now c.args.function c.in-Ok.tree c.tree.ensures.section
    ((c.requires.reached.exact c.args.function c.requires.function).0
    c.if-not-reached-function.false)
    c.in-Ok.ensures.allowed c.in-Ok.ensures.tree

pub returns-in_ok-of-in-Err-clause-tried : goal.returns-in_ok-of-in-Err-clause-tried
returns-in_ok-of-in-Err-clause-tried c =
    tried-refused c.args.code.now c.args.function c.in-Err.no
    c.in_ok-of-in-Err.field-0 c.tree.ensures.section
    ((c.requires.reached.exact c.args.function c.requires.function).0
    c.if-not-reached-function.false)
    c.in-Err.ensures.refused c.in_ok-of-in-Err.ensures.known
