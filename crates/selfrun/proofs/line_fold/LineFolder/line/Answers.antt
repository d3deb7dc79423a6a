use Rattle.std.proofs.Common.{◌≡◌, ℕ, ◌∙◌, ap, sym}
use Rattle.rv_exec.specs.declared.outcome.Effect.{Effect}
use Rattle.rv_exec.specs.declared.outcome.Event.{Event}
use Rattle.trace_print.specs.Text.{effect_text}
use Rattle.selfrun.specs.Folds.{site_text}
use Rattle.selfrun.specs.Text.{fold_of, with_byte}
use Rattle.selfrun.proofs.FoldLemmas.{line_parts, of_nothing, of_register, of_store, of_trap}
use Rattle.selfrun.proofs.line_fold.LineFolder.line.Goals as goal
use Rattle.selfrun.proofs.line_fold.LineFolder.line.Goals.{in-Nothing, in-Reg, in-Store, in-Trap}

pub returns : goal.returns
returns c =
    let prefix : ℕ = c.fold-prefix.result in
    let with_effect : Effect → ℕ = λ x. fold_of prefix (effect_text x) in
    let shown : c.match-effect.shown ≡ with_effect c.args.effect.now =
    elim c.match-effect.branch [
      | in-Nothing w ↦
          w.shown-is ∙ w.with_byte-shown.ensures ∙ of_nothing prefix
          ∙ ap with_effect (sym w.in-Nothing.is)
      | in-Reg w ↦
          w.shown-is ∙ w.register-shown.ensures ∙ of_register prefix w.in-Reg.rd w.in-Reg.value
          ∙ ap with_effect (sym w.in-Reg.is)
      | in-Store w ↦
          w.shown-is ∙ w.store-shown.ensures
          ∙ of_store prefix w.in-Store.address w.in-Store.size w.in-Store.value
          ∙ ap with_effect (sym w.in-Store.is)
      | in-Trap w ↦
          w.shown-is ∙ w.trap-shown.ensures ∙ of_trap prefix w.in-Trap.cause w.in-Trap.target
          ∙ ap with_effect (sym w.in-Trap.is)
    ] in
    let event : Event = record {
      cycle = c.args.cycle;
      thread = c.args.thread;
      pc = c.args.pc;
      word = c.args.word;
      effect = c.args.effect.now;
    } in
    let begun = c.fold-prefix.ensures
    ∙ ap (λ x. fold_of x (site_text c.args.pc c.args.word)) c.fold-begun.ensures in
    let whole = shown ∙ ap (λ x. fold_of x (effect_text c.args.effect.now)) begun in
    c.with_byte.ensures ∙ ap (λ x. with_byte x 10) whole ∙ line_parts c.args.h event
