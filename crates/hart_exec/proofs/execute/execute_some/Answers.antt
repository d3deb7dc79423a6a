-- No expiry, and a fetch that is allowed.
use Rattle.std.proofs.Common.{refl, ap}
use Rattle.core_model.specs.Issue.{execute_in, run_at}
use Rattle.hart_exec.specs.Units.{environment_of, own_of}
use Rattle.hart_exec.proofs.Shown.{carried, some-shown}
use Rattle.hart_exec.proofs.execute.execute_some.Goals as goal

pub returns-clause-refines : goal.returns-clause-refines
unfolding execute_in environment_of
returns-clause-refines g c =
    carried _ _ c.args.hart.now _ c.run_at.result _ _ refl refl refl
    (rw (
      c.if-expired.false,
      ← c.may_fetch_by.ensures,
      c.if-not-may_fetch_by.false,
      ← c.decode.ensures.table,
    )
    refl) c.run_at.ensures.refines

pub returns-clause-frequent : goal.returns-clause-frequent
unfolding execute_in environment_of
returns-clause-frequent g c =
    λ common. rw (
      c.if-expired.false,
      ← c.may_fetch_by.ensures,
      c.if-not-may_fetch_by.false,
      ← c.decode.ensures.table,
    )
    (c.run_at.ensures.frequent common)

pub returns-clause-shown : goal.returns-clause-shown
unfolding environment_of
returns-clause-shown g c =
    let h = c.args.hart.now in
    let a = c.args in
    some-shown (environment_of h) _ _ (own_of h) a.at.pc a.at.word a.s.a a.s.b _ c.run_at.result
    (ap (λ i. (run_at (environment_of h) a.at.pc (own_of h) a.at.word a.s.a a.s.b i).effect)
    c.decode.ensures.table) c.run_at.ensures.refines c.run_at.ensures.word
