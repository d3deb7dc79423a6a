use Rattle.std.proofs.Common.{◌≡◌, ◌%◌, length, sym, ◌∙◌, inl, inr, false, true}
use Rattle.slot_table.specs.Frame.{frame}
use Rattle.region_tree.specs.Walk.{IsOwn}
use Rattle.bound_calc.specs.Bound.{positions}
use Rattle.bound_calc.proofs.StepLaws.{own-thread, own-neither, own-test}
use Rattle.bound_calc.proofs.steps.is_own.Goals as goal

pub returns-in-Thread : goal.returns-in-Thread
returns-in-Thread c =
    own-test c.in-Thread.turn c.args.thread (IsOwn (positions c.args.slots.now c.args.thread)
    (c.args.cycle % length (frame c.args.slots.now))) (own-thread c.args.slots.now c.args.cycle
    c.in-Thread.turn c.args.thread (sym c.in-Thread.ensures.turn))

pub returns-in-Soft : goal.returns-in-Soft
returns-in-Soft c =
    let never =
    own-neither c.args.slots.now c.args.cycle c.args.thread c.requires (elim c.in-Soft.is [
      | inl e ↦ inl (sym c.turn.ensures.turn ∙ e)
      | inr e ↦ inr (sym c.turn.ensures.turn ∙ e)
    ]) in
    ((λ h. let z : false ≡ true = h in cc), (λ o. absurd (never o)))
