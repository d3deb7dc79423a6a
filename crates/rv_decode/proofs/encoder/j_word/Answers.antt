-- The bits of an offset at their positions.
use Rattle.std.proofs.Common.{◌≡◌, ℕ, ◌+◌, ◌*◌, ◌/◌, ◌%◌, ◌^◌, ◌<◌, ◌∙◌, ap, arith, bit_and}
use Rattle.std.proofs.lemmas.Nat.{and_mask}
use Rattle.std.proofs.lemmas.Grind.{common_steps}
use Rattle.std.proofs.lemmas.Int.{ints}
use Rattle.rv_decode.specs.Fields.{field}
use Rattle.rv_decode.specs.Encoding.{low_bits, u_word}
use Rattle.rv_decode.proofs.encoder.j_word.Goals as goal

-- the parts of an offset of 21 bits, where the code puts them
abbrev sum_of_parts : ℕ → ℕ
sum_of_parts n =
    n / 1048576 * 524288 % 4294967296 + bit_and (n / 2) 1023 * 512 % 4294967296
    + bit_and (n / 2048) 1 * 256 % 4294967296 + bit_and (n / 4096) 255

parts_are : (n : ℕ) → n < 2 ^ 21 → sum_of_parts n
    ≡ field n 20 1 * 2 ^ 19 + field n 1 10 * 2 ^ 9 + field n 11 1 * 2 ^ 8 + field n 12 8
parts_are n h = omega (arith, and_mask (n / 2) 10, and_mask (n / 2048) 1, and_mask (n / 4096) 8)

parts_small : (n : ℕ) → n < 2 ^ 21 → sum_of_parts n < 2 ^ 20
parts_small n h = omega (arith, and_mask (n / 2) 10, and_mask (n / 2048) 1, and_mask (n / 4096) 8)

offset_small : (x : ℕ) → bit_and x 2097151 < 2 ^ 21
offset_small x = omega (arith, and_mask x 21)

pub overflow_add-imm : goal.overflow_add-imm
overflow_add-imm c = omega (arith, parts_small _ (offset_small c.cast_unsigned-bits.result))

pub overflow_add-imm-2 : goal.overflow_add-imm-2
overflow_add-imm-2 c = omega (arith, parts_small _ (offset_small c.cast_unsigned-bits.result))

pub overflow_add-imm-3 : goal.overflow_add-imm-3
overflow_add-imm-3 c = omega (arith, parts_small _ (offset_small c.cast_unsigned-bits.result))

pub u_word-requires-clause-imm : goal.u_word-requires-clause-imm
u_word-requires-clause-imm c = parts_small _ (offset_small c.cast_unsigned-bits.result)

pub returns : goal.returns
returns c =
    let x = c.cast_unsigned-bits.result in
    let low : bit_and x 2097151 ≡ low_bits 21 c.args.off = grind (ints, arith, common_steps) in
    c.u_word.ensures
    ∙ ap (u_word c.args.code c.args.rd) (parts_are _ (offset_small x) ∙ ap (λ (n : ℕ).
    field n 20 1 * 2 ^ 19 + field n 1 10 * 2 ^ 9 + field n 11 1 * 2 ^ 8 + field n 12 8) low)
