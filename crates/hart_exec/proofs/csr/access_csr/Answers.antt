-- The result of an access decides the execution of the instruction.
use Rattle.std.proofs.Common.{ap, sym, refl, ◌∙◌}
use Rattle.trap_unit.specs.Access.{guard_after, sched_after, shared_value}
use Rattle.trap_unit.specs.Access.{traps_after, value_by, written_in}
use Rattle.hart_exec.specs.Units.{environment_of, own_of}
use Rattle.hart_exec.proofs.Answered.{answered, by_answer, by_written, read_csr, refused, wrote_csr}
use Rattle.hart_exec.proofs.csr.access_csr.Goals as goal

pub returns-in-Some-clause-refines : goal.returns-in-Some-clause-refines
unfolding environment_of value_by
returns-in-Some-clause-refines c =
    let h = c.args.hart.now in
    let a = c.args in
    let old = c.in-Ok.done.old in
    let written = ap written_in c.in-Ok.is ∙ c.in-Some.is in
    wrote_csr h _ _ _ a.at.pc a.at.word a.rd a.csr c.in-Some.value old
    (answered h.permit h.thread a.at.pc (own_of h) a.at.word a.rd a.csr a.wanted.op
    a.wanted.operand a.wanted.writes (shared_value h.sched.now h.guard.now a.csr)
    ∙ ap (λ r. by_answer a.at.pc (own_of h) a.at.word a.rd a.csr r)
    (sym c.access-answer.ensures.answer ∙ c.in-Ok.is)
    ∙ ap (λ v. by_written a.at.pc (own_of h) a.at.word a.rd a.csr old v) c.in-Some.is)
    (rw (c.advance.ensures, c.lag_of.ensures.table, c.requires.lag) refl) refl
    (c.access-answer.ensures.traps ∙ ap (λ v. traps_after h.traps.now h.thread a.csr v) written)
    (c.access-answer.ensures.sched ∙ ap (λ v. sched_after h.sched.now a.csr v) written)
    (c.access-answer.ensures.guard ∙ ap (λ v. guard_after h.guard.now a.csr v) written)

pub returns-in-None-clause-refines : goal.returns-in-None-clause-refines
unfolding environment_of value_by
returns-in-None-clause-refines c =
    let h = c.args.hart.now in
    let a = c.args in
    let old = c.in-Ok.done.old in
    let written = ap written_in c.in-Ok.is ∙ c.in-None.is in
    read_csr h _ _ _ a.at.pc a.at.word _ a.rd old
    (answered h.permit h.thread a.at.pc (own_of h) a.at.word a.rd a.csr a.wanted.op
    a.wanted.operand a.wanted.writes (shared_value h.sched.now h.guard.now a.csr)
    ∙ ap (λ r. by_answer a.at.pc (own_of h) a.at.word a.rd a.csr r)
    (sym c.access-answer.ensures.answer ∙ c.in-Ok.is)
    ∙ ap (λ v. by_written a.at.pc (own_of h) a.at.word a.rd a.csr old v) c.in-None.is)
    c.requires.lag refl
    (c.access-answer.ensures.traps ∙ ap (λ v. traps_after h.traps.now h.thread a.csr v) written)
    (c.access-answer.ensures.sched ∙ ap (λ v. sched_after h.sched.now a.csr v) written)
    (c.access-answer.ensures.guard ∙ ap (λ v. guard_after h.guard.now a.csr v) written)
    (c.write.ensures.refines h)

pub returns-in_default-clause-refines : goal.returns-in_default-clause-refines
unfolding environment_of value_by
returns-in_default-clause-refines c =
    let h = c.args.hart.now in
    let a = c.args in
    refused h _ _ _ _ a.at.pc a.at.word
    (answered h.permit h.thread a.at.pc (own_of h) a.at.word a.rd a.csr a.wanted.op
    a.wanted.operand a.wanted.writes (shared_value h.sched.now h.guard.now a.csr)
    ∙ ap (λ r. by_answer a.at.pc (own_of h) a.at.word a.rd a.csr r)
    (sym c.access-answer.ensures.answer ∙ c.in_default.is)) refl refl
    (c.access-answer.ensures.traps
    ∙ ap (λ r. traps_after h.traps.now h.thread a.csr (written_in r)) c.in_default.is)
    (c.access-answer.ensures.sched
    ∙ ap (λ r. sched_after h.sched.now a.csr (written_in r)) c.in_default.is)
    (c.access-answer.ensures.guard
    ∙ ap (λ r. guard_after h.guard.now a.csr (written_in r)) c.in_default.is) c.trap.ensures.refines
