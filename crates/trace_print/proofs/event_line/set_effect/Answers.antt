use Rattle.std.proofs.Common.{append_assoc, refl}
use Rattle.trace_print.specs.Text.{effect_text, register_text, store_text}
use Rattle.trace_print.proofs.InPlace.{width_text}
use Rattle.trace_print.proofs.event_line.set_effect.Goals as goal

pub returns-in-Nothing-clause-text : goal.returns-in-Nothing-clause-text
unfolding effect_text
returns-in-Nothing-clause-text c = rw (c.set_byte.ensures, c.in-Nothing.is) refl

pub returns-in-Reg-clause-text : goal.returns-in-Reg-clause-text
unfolding effect_text register_text
returns-in-Reg-clause-text c =
    rw (
      c.set_word.ensures,
      c.set_byte-in-Reg-2.ensures,
      c.set_two_digits.ensures,
      c.set_byte-in-Reg.ensures,
      c.in-Reg.is,
    ) (simp append_assoc)

pub returns-in-Store-clause-text : goal.returns-in-Store-clause-text
unfolding effect_text store_text
returns-in-Store-clause-text c =
    let printable = rw c.in-Store.is at c.requires in
    rw (
      c.set_word-in-Store-2.ensures,
      c.set_byte-in-Store-5.ensures,
      c.set_byte-in-Store-4.ensures,
      c.set_byte-in-Store-3.ensures,
      c.set_byte-in-Store-2.ensures,
      c.set_word-in-Store.ensures,
      c.set_byte-in-Store.ensures,
      c.in-Store.is,
      width_text c.in-Store.size printable.0,
    )
    (simp append_assoc)
