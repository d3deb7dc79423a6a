-- A mode by a shift of the word.
use Rattle.std.proofs.Common.{◌≡◌, ◌<◌, ℕ, zero, suc, ◌*◌, ◌/◌, ◌%◌, ◌^◌, arith, refl}
use Rattle.slot_scheduler.specs.ModeWord.{mode_of}

-- the modes are the fields of two bits, from the lowest on
pub shifted : (w k : ℕ) → k < 8 → w / 2 ^ (2 * k) % 4 ≡ mode_of w k
shifted w zero small = refl
shifted w (suc zero) small = refl
shifted w (suc (suc zero)) small = refl
shifted w (suc (suc (suc zero))) small = refl
shifted w (suc (suc (suc (suc zero)))) small = refl
shifted w (suc (suc (suc (suc (suc zero))))) small = refl
shifted w (suc (suc (suc (suc (suc (suc zero)))))) small = refl
shifted w (suc (suc (suc (suc (suc (suc (suc zero))))))) small = refl
shifted w (suc (suc (suc (suc (suc (suc (suc (suc k)))))))) small = absurd (omega (arith, small))
