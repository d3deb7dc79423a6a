use Rattle.std.proofs.Common.{◌≡◌, ◌==◌, ◌||◌, length, rules}
use Rattle.slot_table.proofs.Masks.{mask_of_eight}
use Rattle.region_guard.proofs.register.mask_for.Goals as goal

pub returns : goal.returns
returns c =
    let eight : length c.args.nibbles.now ≡ 8 = search rules in
    rw (
      c.bit.ensures.bit,
      c.bit-2.ensures.bit,
      c.bit-3.ensures.bit,
      c.bit-4.ensures.bit,
      c.bit-5.ensures.bit,
      c.bit-6.ensures.bit,
      c.bit-7.ensures.bit,
      c.bit-8.ensures.bit,
    )
    (mask_of_eight (λ nibble. nibble == c.args.thread || nibble == c.args.other)
    c.args.nibbles.now eight)
