use Rattle.slot_table.proofs.table.SlotTable.word.Goals as goal

pub returns-clause-word : goal.returns-clause-word
returns-clause-word c = c.self.view_is
