use Rattle.slot_table.proofs.Turns.{IsTurn-turn}
use Rattle.slot_table.proofs.table.SlotTable.turn.Goals as goal

pub returns-clause-thread : goal.returns-clause-thread
returns-clause-thread c =
    rw (c.turn_named.ensures, c.slot.ensures.turn) (IsTurn-turn c.args.self.now c.args.cycle)
