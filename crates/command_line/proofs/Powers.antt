-- Numbers of few digits are small.
use Rattle.std.proofs.Common.{ℕ, ◌+◌, ◌<◌, ◌≤◌, ◌^◌, arith}
use Rattle.std.proofs.Math.Nat.{pow-le-pow_right}

pub of_hexadecimal : (n i len : ℕ) → n + 1 ≤ 16 ^ i → i < len → len ≤ 8 → n + 1 ≤ 268435456
of_hexadecimal n i len small inside most =
    let few : i ≤ 7 = omega arith in
    let sixteen : 0 < 16 = omega arith in
    let all : 16 ^ i ≤ 16 ^ 7 = pow-le-pow_right sixteen few in
    omega (arith, all)

pub of_decimal : (n i len : ℕ) → n + 1 ≤ 10 ^ i → i < len → len ≤ 10 → n + 1 ≤ 1000000000
of_decimal n i len small inside most =
    let few : i ≤ 9 = omega arith in
    let ten : 0 < 10 = omega arith in
    let all : 10 ^ i ≤ 10 ^ 9 = pow-le-pow_right ten few in
    omega (arith, all)
