-- The lanes of the four bytes of a word.
use Rattle.std.proofs.Common.{◌≡◌, ℕ, zero, suc, ◌*◌, ◌%◌, ◌^◌, ◌<◌, refl, arith}

-- a lane of a byte as a lane of its lowest bit
pub lane_power : (lane : ℕ) → lane < 4 → 2 ^ (lane * 8) ≡ 256 ^ lane
lane_power zero h = refl
lane_power (suc zero) h = refl
lane_power (suc (suc zero)) h = refl
lane_power (suc (suc (suc zero))) h = refl
lane_power (suc (suc (suc (suc lane)))) h = absurd (omega arith)

-- a byte at its lane is within the word
pub byte_fits : (lane v : ℕ) → lane < 4 → v < 256 → v * 256 ^ lane < 2 ^ 32
byte_fits zero v h j = omega arith
byte_fits (suc zero) v h j = omega arith
byte_fits (suc (suc zero)) v h j = omega arith
byte_fits (suc (suc (suc zero))) v h j = omega arith
byte_fits (suc (suc (suc (suc lane)))) v h j = absurd (omega arith)

-- and so are two bytes at an even lane
pub half_fits : (lane v : ℕ) → lane < 4 → lane % 2 ≡ 0 → v < 65536 → v * 256 ^ lane < 2 ^ 32
half_fits zero v h e j = omega arith
half_fits (suc zero) v h e j = absurd (omega arith)
half_fits (suc (suc zero)) v h e j = omega arith
half_fits (suc (suc (suc zero))) v h e j = absurd (omega arith)
half_fits (suc (suc (suc (suc lane)))) v h e j = absurd (omega arith)

-- the mask of two bytes
pub half_mask_fits : (lane : ℕ) → lane < 4 → 3 * 2 ^ lane < 2 ^ 8
half_mask_fits zero h = omega arith
half_mask_fits (suc zero) h = omega arith
half_mask_fits (suc (suc zero)) h = omega arith
half_mask_fits (suc (suc (suc zero))) h = omega arith
half_mask_fits (suc (suc (suc (suc lane)))) h = absurd (omega arith)
