use Rattle.std.proofs.Common.{◌≡◌, ◌+◌, arith, refl, sym, subst}
use Rattle.call_bounds.specs.Build.{AreTreesTo}
use Rattle.call_bounds.specs.Listing.{function_count}
use Rattle.call_bounds.specs.declared.tree.CallNo.TheVariants.{NoMemory}
use Rattle.call_bounds.proofs.PassedOn.{no-value, told-as}
use Rattle.call_bounds.proofs.TreeLaws.{trees-next}
use Rattle.call_bounds.proofs.causes.try_functions.Goals as goal

pub loop-function-preserved : goal.loop-function-preserved
loop-function-preserved c =
    subst (AreTreesTo c.args.code.now (c.loop-function.function + 1) c.push_tree.new.trees.items)
    (sym c.join-causes.ensures)
    (trees-next c.args.code.now c.loop-function.function c.loop-function.trees.items
    c.push_tree.new.trees.items
    c.in_ok-tried.tried.tree c.loop-function.causes c.in_ok-tried.tried.causes
    c.in_ok-push_tree.ensures
    c.in_ok-tried.ensures.tried c.loop-function.invariant)

pub try_function-requires-clause-function : goal.try_function-requires-clause-function
try_function-requires-clause-function c =
    omega (arith, c.loop-function-test.true, c.function_count-function-end.ensures.value)

pub returns-in_err-tried : goal.returns-in_err-tried
returns-in_err-tried c =
    let r = c.from_residual.result in
    let no = c.from_residual.ensures.1 in
    record {
      trees = no-value r _ _ no;
      memory =
          told-as (λ why. why ≡ NoMemory) r c.in_err-tried.field-0.0 no
          c.in_err-tried.ensures.memory;
    }

pub returns-in_err-push_tree : goal.returns-in_err-push_tree
returns-in_err-push_tree c =
    let r = c.from_residual-in_err-push_tree.result in
    let no = c.from_residual-in_err-push_tree.ensures.1 in
    record {
      trees = no-value r _ _ no;
      memory = told-as (λ why. why ≡ NoMemory) r NoMemory no refl;
    }

pub returns-clause-trees : goal.returns-clause-trees
returns-clause-trees c =
    let all : c.loop-function.function ≡ function_count c.args.code.now = omega (
      arith,
      c.loop-function-test.false,
      c.loop-function.auto.function-end,
      c.function_count-function-end.ensures.value,
    ) in
    subst (λ n. AreTreesTo c.args.code.now n c.loop-function.trees.items c.loop-function.causes) all
    c.loop-function.invariant
