use Rattle.call_bounds.proofs.PassedOn.{any-success, no-success, no-value}
use Rattle.call_bounds.proofs.bound.largest_cost.Goals as goal

pub most-requires-clause-done : goal.most-requires-clause-done
most-requires-clause-done c = c.in_ok-done.ensures.done

pub most-requires-clause-known : goal.most-requires-clause-known
most-requires-clause-known c = c.in_ok-done.ensures.known

pub returns-in_err-done : goal.returns-in_err-done
returns-in_err-done c =
    let r = c.from_residual.result in
    let no = c.from_residual.ensures.1 in
    record { most = no-value r _ _ no; rules = no-success r _ _ no }

pub returns : goal.returns
returns c = record {
  most = c.most.ensures;
  rules =
      any-success c.most.result _ (let d = c.in_ok-done.ensures.done in (d.listing, d.callable));
}
