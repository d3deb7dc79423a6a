use Rattle.std.proofs.Common.{append_assoc}
use Rattle.trace_print.specs.Text.{store_text}
use Rattle.trace_print.proofs.events.push_store.Goals as goal

pub returns-clause-text : goal.returns-clause-text
unfolding store_text
returns-clause-text c = rw (
  c.push_word-2.ensures.text,
  c.push_str-3.ensures.bytes,
  c.push_decimal.ensures.text,
  c.push_str-2.ensures.bytes,
  c.push_word.ensures.text,
  c.push_str.ensures.bytes,
) (simp append_assoc)
