use Rattle.std.proofs.lemmas.Result.{err_from_is_err_and}
use Rattle.call_bounds.proofs.CauseLaws.{tree-allowed, tree-refused}
use Rattle.call_bounds.proofs.causes.function_trees.Goals as goal

pub try_functions-requires : goal.try_functions-requires
try_functions-requires c = c.requires

pub returns-in_err-refuse-clause-refused : goal.returns-in_err-refuse-clause-refused
returns-in_err-refuse-clause-refused c =
    let p = err_from_is_err_and c.from_residual-in_err-refuse.result
    c.from_residual-in_err-refuse.ensures.1 in
    rw (p.1, p.2) (tree-refused c.args.code.now c.in_ok-tried.tried.causes c.in_err-refuse.field-0.0
    c.in_ok-tried.ensures.trees.causes c.in_err-refuse.ensures)

pub returns-clause-allowed : goal.returns-clause-allowed
returns-clause-allowed c =
    tree-allowed c.args.code.now c.in_ok-tried.tried.causes c.in_ok-tried.ensures.trees.causes
    c.in_ok-refuse.ensures
