-- A nibble by a shift of the word.
use Rattle.std.proofs.Common.{◌≡◌, ◌<◌, ℕ, zero, suc, ◌*◌, ◌/◌, ◌%◌, ◌^◌, arith, refl}
use Rattle.slot_table.specs.Nibbles.{nibbles, nibble_at}

-- the nibbles are the fields of four bits, from the lowest on
pub shifted : (w k : ℕ) → k < 8 → w / 2 ^ (4 * k) % 16 ≡ nibble_at w k
unfolding nibbles
shifted w zero small = omega arith
shifted w (suc zero) small = refl
shifted w (suc (suc zero)) small = refl
shifted w (suc (suc (suc zero))) small = refl
shifted w (suc (suc (suc (suc zero)))) small = refl
shifted w (suc (suc (suc (suc (suc zero))))) small = refl
shifted w (suc (suc (suc (suc (suc (suc zero)))))) small = refl
shifted w (suc (suc (suc (suc (suc (suc (suc zero))))))) small = refl
shifted w (suc (suc (suc (suc (suc (suc (suc (suc k)))))))) small = absurd (omega (arith, small))
