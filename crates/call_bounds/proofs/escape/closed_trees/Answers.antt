use Rattle.call_bounds.specs.CallRefused.{IsCallRefused}
use Rattle.call_bounds.specs.Listing.{calls}
use Rattle.call_bounds.proofs.PassedOn.{no-success, no-value, told-as, tree-refused}
use Rattle.call_bounds.proofs.escape.closed_trees.Goals as goal

pub returns-in_err-trees : goal.returns-in_err-trees
returns-in_err-trees c =
    let x = calls c.args.code.now in
    let r = c.from_residual.result in
    let no = c.from_residual.ensures.1 in
    let why = c.in_err-trees.field-0.0 in
    record {
      trees = no-value r _ _ no;
      allowed = no-success r _ _ no;
      refused =
          told-as (IsCallRefused x) r why no
          (tree-refused x why c.requires.allowed c.in_err-trees.ensures.refused);
    }

pub returns-in-None : goal.returns-in-None
returns-in-None c =
    let before = c.requires.allowed in
    let functions = c.in_ok-trees.ensures.allowed in
    record {
      trees = c.in_ok-trees.ensures.trees;
      allowed = record {
        overlap = before.0;
        recursion = before.1;
        nesting = functions.0;
        indirect = functions.1;
        timed = functions.2;
        unbounded = functions.3;
        escape = c.in-None.ensures;
      };
      refused = tt;
    }

pub returns-in-Some : goal.returns-in-Some
returns-in-Some c = record {
  trees = tt;
  allowed = tt;
  refused = (c.requires.allowed, c.in_ok-trees.ensures.allowed, c.in-Some.ensures);
}
