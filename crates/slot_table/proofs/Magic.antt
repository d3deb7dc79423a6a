-- The position of a cycle in its frame, by a multiplication.
use Rattle.std.proofs.Common.{◌≡◌, ◌<◌, ◌≤◌, ℕ, zero, suc, ◌*◌}
use Rattle.std.proofs.Common.{◌/◌, ◌%◌, ◌==◌, if◌then◌else◌, arith}
use Rattle.slot_table.specs.Table.{magic_of}

by_2 : (c : ℕ) → c < 2305843009213693952 →
    9223372036854775808 * c % 18446744073709551616 * 2 / 18446744073709551616 ≡ c % 2
by_2 c early = omega (arith, early)

by_3 : (c : ℕ) → c < 2305843009213693952 →
    6148914691236517206 * c % 18446744073709551616 * 3 / 18446744073709551616 ≡ c % 3
by_3 c early = omega (arith, early)

by_4 : (c : ℕ) → c < 2305843009213693952 →
    4611686018427387904 * c % 18446744073709551616 * 4 / 18446744073709551616 ≡ c % 4
by_4 c early = omega (arith, early)

by_5 : (c : ℕ) → c < 2305843009213693952 →
    3689348814741910324 * c % 18446744073709551616 * 5 / 18446744073709551616 ≡ c % 5
by_5 c early = omega (arith, early)

by_6 : (c : ℕ) → c < 2305843009213693952 →
    3074457345618258603 * c % 18446744073709551616 * 6 / 18446744073709551616 ≡ c % 6
by_6 c early = omega (arith, early)

by_7 : (c : ℕ) → c < 2305843009213693952 →
    2635249153387078803 * c % 18446744073709551616 * 7 / 18446744073709551616 ≡ c % 7
by_7 c early = omega (arith, early)

by_8 : (c : ℕ) → c < 2305843009213693952 →
    2305843009213693952 * c % 18446744073709551616 * 8 / 18446744073709551616 ≡ c % 8
by_8 c early = omega (arith, early)

pub position_by : (len c : ℕ) → len ≤ 8 → c < 2305843009213693952 →
    magic_of len * c % 18446744073709551616 * len / 18446744073709551616
    ≡ (if len == 0 then 0 else c % len)
position_by zero c small early = omega arith
position_by (suc zero) c small early = omega arith
position_by (suc (suc zero)) c small early = by_2 c early
position_by (suc (suc (suc zero))) c small early = by_3 c early
position_by (suc (suc (suc (suc zero)))) c small early = by_4 c early
position_by (suc (suc (suc (suc (suc zero))))) c small early = by_5 c early
position_by (suc (suc (suc (suc (suc (suc zero)))))) c small early = by_6 c early
position_by (suc (suc (suc (suc (suc (suc (suc zero))))))) c small early = by_7 c early
position_by (suc (suc (suc (suc (suc (suc (suc (suc zero)))))))) c small early = by_8 c early
position_by (suc (suc (suc (suc (suc (suc (suc (suc (suc k))))))))) c small early =
    absurd (omega (arith, small))
