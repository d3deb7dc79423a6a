use Rattle.std.proofs.Common.{◌-◌, append_assoc}
use Rattle.std.proofs.lemmas.Bool.{ne_eqb}
use Rattle.trace_print.specs.Places.{key_text, index_text, value_text}
use Rattle.trace_print.proofs.places.push_value.Goals as goal

pub returns-then-item-ne0-clause-text : goal.returns-then-item-ne0-clause-text
unfolding value_text
returns-then-item-ne0-clause-text c =
    rw (
      c.push_index.ensures.text,
      c.push_str.ensures.bytes,
      c.key_name.ensures.name,
      ne_eqb c.args.item 0 c.if-item-ne0.true,
    )
    (append_assoc c.args.text.now.bytes (key_text c.args.table c.args.key)
    (index_text (c.args.item - 1)))
