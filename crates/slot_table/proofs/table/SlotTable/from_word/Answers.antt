use Rattle.std.proofs.Common.{Some, None, sym, rules}
use Rattle.slot_table.specs.Frame.{frame}
use Rattle.slot_table.specs.Table.{table_of}
use Rattle.slot_table.proofs.Accepted.{accepted_at}
use Rattle.slot_table.proofs.table.SlotTable.from_word.Goals as goal

pub invariant_of-result : goal.invariant_of-result
unfolding frame
invariant_of-result c = (
  sym (accepted_at c.args.word None (rw c.nibbles_of-slots.ensures at c.in-None.ensures.first)),
  rw c.nibbles_of-slots.ensures at c.of_slots.ensures,
)

pub returns-in-Some-clause-accepts : goal.returns-in-Some-clause-accepts
returns-in-Some-clause-accepts c =
    accepted_at c.args.word (Some c.in-Some.index)
    (rw c.nibbles_of-slots.ensures at c.in-Some.ensures.first)

pub returns-in-None-clause-accepts : goal.returns-in-None-clause-accepts
returns-in-None-clause-accepts c =
    accepted_at c.args.word None (rw c.nibbles_of-slots.ensures at c.in-None.ensures.first)

pub returns-in-Some-clause-table : goal.returns-in-Some-clause-table
unfolding frame table_of
returns-in-Some-clause-table c = search rules
