use Rattle.call_bounds.specs.CallRefused.{IsCallRefused}
use Rattle.call_bounds.specs.Listing.{calls}
use Rattle.call_bounds.proofs.PassedOn.{memory-refused, no-success, no-value, told-as}
use Rattle.call_bounds.proofs.tree.build_functions.Goals as goal

pub returns-in_err-refuse_overlap : goal.returns-in_err-refuse_overlap
returns-in_err-refuse_overlap c =
    let r = c.from_residual.result in
    let no = c.from_residual.ensures.1 in
    record {
      trees = no-value r _ _ no;
      order = no-value r _ _ no;
      allowed = no-success r _ _ no;
      refused =
          told-as (IsCallRefused (calls c.args.code.now)) r c.in_err-refuse_overlap.field-0.0 no
          c.in_err-refuse_overlap.ensures;
    }

pub returns-in_err-table : goal.returns-in_err-table
returns-in_err-table c =
    let r = c.from_residual-in_err-table.result in
    let no = c.from_residual-in_err-table.ensures.1 in
    record {
      trees = no-value r _ _ no;
      order = no-value r _ _ no;
      allowed = no-success r _ _ no;
      refused = memory-refused (calls c.args.code.now) r no;
    }

pub returns-in_err-trees : goal.returns-in_err-trees
returns-in_err-trees c =
    let r = c.from_residual-in_err-trees.result in
    let no = c.from_residual-in_err-trees.ensures.1 in
    record {
      trees = no-value r _ _ no;
      order = no-value r _ _ no;
      allowed = no-success r _ _ no;
      refused =
          told-as (IsCallRefused (calls c.args.code.now)) r c.in_err-trees.field-0.0 no
          c.in_err-trees.ensures.refused;
    }

pub returns-in_err-ranks : goal.returns-in_err-ranks
returns-in_err-ranks c =
    let r = c.from_residual-in_err-ranks.result in
    let no = c.from_residual-in_err-ranks.ensures.1 in
    record {
      trees = no-value r _ _ no;
      order = no-value r _ _ no;
      allowed = no-success r _ _ no;
      refused = memory-refused (calls c.args.code.now) r no;
    }

pub returns : goal.returns
returns c = record {
  trees = c.in_ok-trees.ensures.trees;
  order = c.in_ok-ranks.ensures;
  allowed = c.in_ok-trees.ensures.allowed;
  refused = tt;
}
