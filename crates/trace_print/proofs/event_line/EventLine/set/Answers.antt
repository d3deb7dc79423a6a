use Rattle.std.proofs.Common.{◌+◌, ◌∙◌, arith}
use Rattle.trace_print.proofs.InPlace.{behind, pieces, line_is, upper_left, kept_on}
use Rattle.trace_print.proofs.event_line.EventLine.set.Goals as goal

pub invariant_of-self : goal.invariant_of-self
invariant_of-self c =
    let text = c.set_cycle-self-inside.new.text in
    let whole = pieces text _ _ _ _ _ _ c.set_byte-4.new.text c.set_effect-end.result c.args.pc
    c.args.word c.args.effect.now c.set_byte.ensures c.set_word.ensures c.set_byte-2.ensures
    c.set_word-2.ensures c.set_byte-3.ensures c.set_effect-end.ensures.text c.set_byte-4.ensures in
    let same = upper_left c.args.cycle (c.set_effect-end.result + 1) text c.set_byte-4.new.text
    (behind c.args.pc c.args.word c.args.effect.now) c.requires.cycle
    c.set_cycle-self-inside.ensures.text whole (omega (arith, c.set_effect-end.ensures.room)) in (
      omega (arith, c.set_effect-end.ensures.room),
      c.set_cycle-self-inside.ensures.first,
      kept_on c.set_cycle-self-inside.result text c.set_byte-4.new.text same
          c.set_cycle-self-inside.ensures.kept,
    )

pub returns : goal.returns
returns c =
    let text = c.set_cycle-self-inside.new.text in
    let whole = pieces text _ _ _ _ _ _ c.set_byte-4.new.text c.set_effect-end.result c.args.pc
    c.args.word c.args.effect.now c.set_byte.ensures c.set_word.ensures c.set_byte-2.ensures
    c.set_word-2.ensures c.set_byte-3.ensures c.set_effect-end.ensures.text c.set_byte-4.ensures in
    λ thread. whole ∙ line_is c.args.cycle c.args.pc c.args.word thread c.args.effect.now text
    c.set_cycle-self-inside.ensures.text
