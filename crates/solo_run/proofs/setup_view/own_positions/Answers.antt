use Rattle.std.proofs.Common.{◌≡◌, ◌<◌, ◌≤◌, ◌+◌, ◌-◌, ◌*◌, ◌^◌, if◌then◌else◌}
use Rattle.std.proofs.Common.{length, Bool, true, false, refl, subst, arith, ap, ◌∙◌}
use mir.Val.{bool_byte}
use Rattle.slot_table.specs.Frame.{frame, turn}
use Rattle.slot_table.proofs.Turns.{length-frame-le}
use Rattle.core_model.specs.SettingLaws.{is_turn_of}
use Rattle.solo_run.proofs.Positions.{bit-small, own-fits, own-inside, position-more, turn-own}
use Rattle.solo_run.proofs.setup_view.own_positions.Goals as goal

byte-is : (b : Bool) → bool_byte b ≡ (if b then 1 else 0)
byte-is true = refl
byte-is false = refl

pub overflow_mul-own : goal.overflow_mul-own
overflow_mul-own c =
    let short = length-frame-le c.args.slots.now in
    let few : length (frame c.args.slots.now) - c.loop-position.position < 8 =
    omega (arith, short, c.loop-position-test.true) in
    let small = own-fits c.loop-position.own _ c.loop-position.invariant.inside few in
    omega (arith, small)

pub overflow_add-own : goal.overflow_add-own
overflow_add-own c =
    let short = length-frame-le c.args.slots.now in
    let few : length (frame c.args.slots.now) - c.loop-position.position < 8 =
    omega (arith, short, c.loop-position-test.true) in
    let small = own-fits c.loop-position.own _ c.loop-position.invariant.inside few in
    let bit = bit-small c.from-in-loop-position.result c.is_turn_of-is_own.result
    (c.from-in-loop-position.ensures ∙ byte-is c.is_turn_of-is_own.result) in
    omega (arith, small, bit)

pub loop-position-preserved : goal.loop-position-preserved
loop-position-preserved c =
    let slots = frame c.args.slots.now in
    let i = c.args.thread in
    let position = c.loop-position.position in
    let own = c.loop-position.own in
    let short = length-frame-le c.args.slots.now in
    let within : position ≤ length slots = omega arith in
    let before_end : position - 1 < length slots =
    omega (arith, within, c.loop-position-test.true) in
    let bit = c.from-in-loop-position.ensures ∙ byte-is c.is_turn_of-is_own.result in
    let mine = c.is_turn_of-is_own.ensures
    ∙ ap (λ t. is_turn_of t i) (c.turn.ensures.turn ∙ ap (turn c.args.slots.now) c.from.ensures)
    ∙ turn-own c.args.slots.now i (position - 1) c.requires before_end in
    let longer : length slots - position + 1 ≡ length slots - (position - 1) =
    omega (arith, within, c.loop-position-test.true) in
    record {
      mine =
          position-more slots i own position c.from-in-loop-position.result
          c.is_turn_of-is_own.result c.loop-position-test.true within bit mine
          c.loop-position.invariant.mine;
      inside =
          subst (λ n. 2 * own + c.from-in-loop-position.result < 2 ^ n) longer
          (own-inside own (length slots - position) c.from-in-loop-position.result
          c.is_turn_of-is_own.result c.loop-position.invariant.inside bit);
    }
