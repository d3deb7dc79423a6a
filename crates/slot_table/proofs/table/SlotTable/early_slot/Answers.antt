use Rattle.slot_table.proofs.Turns.{length-frame-le, turn_named-slot, is_slot-position}
use Rattle.slot_table.proofs.table.SlotTable.early_slot.Goals as goal

pub early_position_of-requires-clause-len : goal.early_position_of-requires-clause-len
early_position_of-requires-clause-len c = rw c.self.invariant.1 (length-frame-le c.self.inside.word)

pub returns-clause-turn : goal.returns-clause-turn
returns-clause-turn c =
    let position = turn_named-slot c.self.inside.word c.args.cycle c.early_position_of.result 0
    c.early_position_of.ensures.inside
    (rw c.self.invariant.1 at c.early_position_of.ensures.position) in
    rw (c.self.invariant.1, ← c.self.view_is) position

pub returns-clause-slot : goal.returns-clause-slot
returns-clause-slot c =
    rw c.self.invariant.1 (is_slot-position c.self.inside.word c.early_position_of.result 0
    c.self.invariant.0 c.early_position_of.ensures.inside)
