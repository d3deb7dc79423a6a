use Rattle.std.proofs.Common.{◌<◌, [], ◌∷◌, filter, length, take}
use Rattle.std.proofs.Common.{get_or, refl, arith, length-append, rules}
use Rattle.std.proofs.lemmas.List.{take_all}
use Rattle.slot_table.specs.Frame.{is_used}
use Rattle.slot_table.proofs.Turns.{used-kept, used-left, in_positions-push}
use Rattle.slot_table.proofs.frame.Frame.of_slots.Goals as goal
use Rattle.slot_table.proofs.frame.Frame.of_slots.Goals.{then-slot-ne-DISABLED}
use Rattle.slot_table.proofs.frame.Frame.of_slots.Goals.{else-slot-ne-DISABLED}

pub loop-slot-preserved : goal.loop-slot-preserved
loop-slot-preserved c =
    let i = c.loop-slot.slot-index in
    let slots = c.args.slots.now in
    let before = filter is_used (take i slots) in
    let inside : i < length slots = omega arith in
    let few : length before < 8 = omega arith in
    elim c.if-slot-ne-DISABLED.branch [
      | then-slot-ne-DISABLED w ↦
          let more = used-kept slots i inside w.if-slot-ne-DISABLED.true in
          let used = in_positions-push before (get_or slots i 0) few in
          let len = length-append before (get_or slots i 0 ∷ []) in
          record { used = cc; len = rw more (omega arith); few = omega arith }
      | else-slot-ne-DISABLED w ↦
          let same = used-left slots i inside w.if-slot-ne-DISABLED.false in
          record { used = cc; len = cc; few = omega arith }
    ]

pub returns : goal.returns
returns c =
    let all = take_all c.loop-slot.slot-index c.args.slots.now (omega arith) in
    rw (c.magic_of.ensures, c.loop-slot.invariant.used, c.loop-slot.invariant.len, all) refl

pub loop-slot-init : goal.loop-slot-init
loop-slot-init c = search rules
