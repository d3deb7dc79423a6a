use Rattle.std.proofs.Common.{ℕ, arith, rules, subst, sym}
use Rattle.std.proofs.lemmas.Result.{err_from_is_err_and}
use Rattle.std.specs.List.{Contains}
use Rattle.slot_table.specs.Frame.{frame}
use Rattle.commands.specs.CallsAnswer.{IsListingAnswer, section_listing}
use Rattle.commands.specs.declared.stop.CommandStop.{CommandStop}
use Rattle.commands.specs.Stops.{IsAnswerStop}
use Rattle.commands.proofs.Bounds.{asked_for, named-there}
use Rattle.commands.proofs.CallAnswers.{calls_stop, calls_told, refused_calls}
use Rattle.commands.proofs.calls.calls_in.Goals as goal

pub call_tree-requires : goal.call_tree-requires
call_tree-requires c =
    (asked_for c.args.program.now.setup c.args.thread c.args.section c.requires.section).1

pub call_bound-requires-clause-slot : goal.call_bound-requires-clause-slot
call_bound-requires-clause-slot c =
    let named =
    (asked_for c.args.program.now.setup c.args.thread c.args.section c.requires.section).0 in
    let Has : ℕ → Type 0 = λ slots. Contains (frame slots) c.args.thread in
    subst Has (sym c.slot_table.ensures)
    (named-there c.args.program.now.setup.slots c.args.thread c.requires.thread named)

pub returns-in_err-tree-clause-stop : goal.returns-in_err-tree-clause-stop
returns-in_err-tree-clause-stop c =
    let p = err_from_is_err_and c.from_residual.result c.from_residual.ensures.1 in
    rw (p.1, p.2)
    (refused_calls _ c.args.program.now.setup.slots c.args.thread _ c.in_err-tree.ensures.stop)

pub returns-in-Ok-clause-ok : goal.returns-in-Ok-clause-ok
returns-in-Ok-clause-ok c =
    let s = c.args.program.now.setup in
    calls_told c.in_ok-tree.tree _ c.slot_table.result s.slots c.args.thread _
    c.in_ok-tree.ensures.tree c.slot_table.ensures (search rules) c.in_ok-tree.ensures.allowed
    (omega arith) c.in-Ok.ensures.bound

pub returns-clause-stop : goal.returns-clause-stop
returns-clause-stop c =
    let p = c.args.program.now in
    let Stops : CommandStop → Type 0 = IsAnswerStop (IsListingAnswer
    (section_listing p c.args.section c.args.routines.now) p.setup.slots c.args.thread) in
    subst Stops (sym c.bound_stop.ensures)
    (calls_stop c.in_ok-tree.tree _ c.slot_table.result p.setup.slots c.args.thread
    c.in-Err.no c.in_ok-tree.ensures.tree c.slot_table.ensures c.in_ok-tree.ensures.allowed
    c.in-Err.ensures.refused)
