-- The bits of an offset at their positions.
use Rattle.std.proofs.Common.{◌≡◌, ℕ, ◌+◌, ◌*◌, ◌/◌, ◌%◌, ◌^◌, ◌<◌, arith, bit_and}
use Rattle.std.proofs.lemmas.Nat.{and_mask}
use Rattle.std.proofs.lemmas.Grind.{common_steps}
use Rattle.std.proofs.lemmas.Int.{ints}
use Rattle.rv_decode.specs.Fields.{field}
use Rattle.rv_decode.specs.Encoding.{low_bits}
use Rattle.rv_decode.proofs.encoder.b_word.Goals as goal

-- the lower part of an offset of 13 bits, where the code puts it, and the upper part
abbrev low_part : ℕ → ℕ
low_part n = bit_and (n / 2) 15 * 2 % 4294967296 + bit_and (n / 2048) 1

abbrev high_part : ℕ → ℕ
high_part n = n / 4096 * 64 % 4294967296 + bit_and (n / 32) 63

low_is : (n : ℕ) → low_part n ≡ field n 1 4 * 2 + field n 11 1
low_is n = omega (arith, and_mask (n / 2) 4, and_mask (n / 2048) 1)

high_is : (n : ℕ) → n < 2 ^ 13 → high_part n ≡ field n 12 1 * 2 ^ 6 + field n 5 6
high_is n h = omega (arith, and_mask (n / 32) 6)

low_small : (n : ℕ) → low_part n < 32
low_small n = omega (arith, low_is n)

high_small : (n : ℕ) → n < 2 ^ 13 → high_part n < 128
high_small n h = omega (arith, high_is n h)

offset_small : (x : ℕ) → bit_and x 8191 < 2 ^ 13
offset_small x = omega (arith, and_mask x 13)

pub overflow_add-low : goal.overflow_add-low
overflow_add-low c = omega (arith, low_small (bit_and c.cast_unsigned-bits.result 8191))

pub overflow_add-high : goal.overflow_add-high
overflow_add-high c = omega (arith, high_small _ (offset_small c.cast_unsigned-bits.result))

pub overflow_cast-low : goal.overflow_cast-low
overflow_cast-low c = omega (arith, low_small (bit_and c.cast_unsigned-bits.result 8191))

pub r_word-requires-clause-rd : goal.r_word-requires-clause-rd
r_word-requires-clause-rd c = low_small (bit_and c.cast_unsigned-bits.result 8191)

pub r_word-requires-clause-funct7 : goal.r_word-requires-clause-funct7
r_word-requires-clause-funct7 c = high_small _ (offset_small c.cast_unsigned-bits.result)

pub returns : goal.returns
returns c =
    let x = c.cast_unsigned-bits.result in
    let n = bit_and x 8191 in
    let low : bit_and x 8191 ≡ low_bits 13 c.args.off = grind (ints, arith, common_steps) in
    let lows = low_is n in
    let highs = high_is n (offset_small x) in
    cc
