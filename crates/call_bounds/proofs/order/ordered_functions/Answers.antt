use Rattle.std.proofs.Common.{subst}
use Rattle.region_tree.specs.Search.{LowestOf}
use Rattle.call_bounds.specs.CallRefusals.{RecursionAt}
use Rattle.call_bounds.specs.Listing.{calls}
use Rattle.call_bounds.proofs.PassedOn.{memory-refused, no-success, no-value}
use Rattle.call_bounds.proofs.order.ordered_functions.Goals as goal

pub returns-in_err-reached : goal.returns-in_err-reached
returns-in_err-reached c =
    let r = c.from_residual.result in
    let no = c.from_residual.ensures.1 in
    record {
      reached = no-value r _ _ no;
      allowed = no-success r _ _ no;
      refused = memory-refused (calls c.args.code.now) r no;
    }

pub returns-in_err-recursion : goal.returns-in_err-recursion
returns-in_err-recursion c =
    let r = c.from_residual-in_err-recursion.result in
    let no = c.from_residual-in_err-recursion.ensures.1 in
    record {
      reached = no-value r _ _ no;
      allowed = no-success r _ _ no;
      refused = memory-refused (calls c.args.code.now) r no;
    }

pub returns-in-None : goal.returns-in-None
returns-in-None c = record {
  reached = c.in_ok-reached.ensures;
  allowed =
      subst (LowestOf (RecursionAt (calls c.args.code.now))) c.in-None.is c.in_ok-recursion.ensures;
  refused = tt;
}

pub returns-in-Some : goal.returns-in-Some
returns-in-Some c = record {
  reached = tt;
  allowed = tt;
  refused = (
    c.requires.overlap,
    subst (LowestOf (RecursionAt (calls c.args.code.now))) c.in-Some.is c.in_ok-recursion.ensures,
  );
}
