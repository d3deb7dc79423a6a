use Rattle.std.proofs.Common.{◌<◌, length, arith}
use Rattle.command_line.proofs.Powers.{of_hexadecimal}
use Rattle.command_line.proofs.numbers.hexadecimal_value.Goals as goal

pub overflow_mul-value : goal.overflow_mul-value
overflow_mul-value c =
    let inside : c.loop-digit.digit-index < length c.args.digits.now = omega arith in
    let small = of_hexadecimal c.loop-digit.value c.loop-digit.digit-index
    (length c.args.digits.now) c.loop-digit.invariant.small inside c.requires in
    omega (arith, small)

pub overflow_add-value : goal.overflow_add-value
overflow_add-value c =
    let inside : c.loop-digit.digit-index < length c.args.digits.now = omega arith in
    let small = of_hexadecimal c.loop-digit.value c.loop-digit.digit-index
    (length c.args.digits.now) c.loop-digit.invariant.small inside c.requires in
    omega (arith, small, c.from.ensures, c.in-Some.ensures.limit)
