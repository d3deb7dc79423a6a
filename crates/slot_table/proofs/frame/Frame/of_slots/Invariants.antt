-- The frame of the slots so far.
use Rattle.std.proofs.Common.{◌≡◌, ◌≤◌, filter, length, take}
use Rattle.slot_table.specs.Frame.{is_used}
use Rattle.slot_table.specs.Table.{in_positions}
use Rattle.slot_table.proofs.frame.Frame.of_slots.Given as goal

abbrev pub invariant-loop-slot : goal.invariant-loop-slot
invariant-loop-slot l = let slots = filter is_used (take l.slot-index l.slots) in record {
  used : l.used ≡ in_positions slots;
  len : l.len ≡ length slots;
  few : l.len ≤ l.slot-index;
}
