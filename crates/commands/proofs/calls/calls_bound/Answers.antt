use Rattle.std.proofs.Common.{sym, ◌∙◌}
use Rattle.commands.proofs.CallAnswers.{calls_ok, calls_stopped, fault_told}
use Rattle.commands.proofs.calls.calls_bound.Goals as goal

pub returns-in-Ok-clause-ok : goal.returns-in-Ok-clause-ok
returns-in-Ok-clause-ok g c =
    let none = sym c.section_fault.ensures ∙ c.in_default.is in
    search (calls_ok (g.F.Files.contents c.args.files.now) c.args.routines.now c.args.program.now
    c.args.thread c.args.section c.size.result _ none c.size.ensures.size c.in-Ok.ensures.ok)

pub returns-in-Ok-clause-stop : goal.returns-in-Ok-clause-stop
returns-in-Ok-clause-stop g c =
    let none = sym c.section_fault.ensures ∙ c.in_default.is in
    search (calls_stopped (g.F.Files.contents c.args.files.now) c.args.routines.now
    c.args.program.now
    c.args.thread c.args.section c.size.result _ (g.F.Files.faults c.args.files.now)
    (g.F.Files.faults c.fetch_routines.new.files) none c.size.ensures.size c.in-Ok.ensures.ok)

pub returns-in-Some-clause-stop : goal.returns-in-Some-clause-stop
returns-in-Some-clause-stop g c = rw c.section_refusal.ensures
    (fault_told (g.F.Files.contents c.args.files.now) c.args.routines.now c.args.program.now
    c.args.thread c.args.section c.in-Some.no (sym c.section_fault.ensures ∙ c.in-Some.is))
