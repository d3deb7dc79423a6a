use Rattle.std.proofs.Common.{◌+◌, ap, sym, ◌∙◌}
use Rattle.std.proofs.lemmas.Result.{err_from_is_err_and}
use Rattle.fp_asm.specs.AbstractPieces.{abstract_labels}
use Rattle.fp_asm.proofs.TargetByTarget.{resolved_from, resolved_start}
use Rattle.fp_asm.proofs.TargetByTarget.{resolved_more, resolved_fault, resolved_end}
use Rattle.fp_asm.proofs.targets.resolve_all.Goals as goal

pub loop-target-init : goal.loop-target-init
loop-target-init c =
    rw c.in_ok-list.ensures.items
    (resolved_start (abstract_labels c.args.labels.now) c.args.targets.now)

pub loop-target-preserved : goal.loop-target-preserved
loop-target-preserved c =
    let labels = abstract_labels c.args.labels.now in
    let i = c.loop-target.target-index in
    c.loop-target.invariant
    ∙ (resolved_more labels c.loop-target.list.items c.args.targets.now i
    _ c.in_ok-word.word c.loop-target-test.true (sym c.in_ok-word.ensures)
    ∙ ap (λ found. resolved_from labels found c.args.targets.now (i + 1))
    (sym c.in_ok-push.ensures.items))

pub returns-in_err-word-clause-refused : goal.returns-in_err-word-clause-refused
returns-in_err-word-clause-refused c =
    let p =
    err_from_is_err_and c.from_residual-in_err-word.result c.from_residual-in_err-word.ensures.1 in
    rw (p.1, p.2)
    (c.loop-target.invariant
    ∙ resolved_fault (abstract_labels c.args.labels.now) c.loop-target.list.items c.args.targets.now
    c.loop-target.target-index _ _ c.loop-target-test.true (sym c.in_err-word.ensures))

pub returns-clause-words : goal.returns-clause-words
returns-clause-words c =
    c.loop-target.invariant ∙ resolved_end (abstract_labels c.args.labels.now)
    c.loop-target.list.items c.args.targets.now c.loop-target.target-index c.loop-target-test.false
