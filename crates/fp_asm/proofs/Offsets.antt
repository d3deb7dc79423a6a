-- Offsets between multiples of four.
use Rattle.std.proofs.Common.{◌≡◌, ℕ, ◌<◌, ◌+◌, ◌-◌, ◌/◌, ◌%◌, ◌^◌, pos}
use Rattle.std.proofs.Common.{◌-ℤ◌, arith, Bool, true, false, cond, nat_lt}
use Rattle.std.proofs.lemmas.Int.{ints}
use Rattle.rv_decode.specs.Fields.{sign_extended}
use Rattle.rv_decode.specs.Range.{IsEven}
use Rattle.fp_asm.specs.Second.{offset_to}

even_signed : (w : ℕ) → w % 2 ≡ 0 → IsEven (sign_extended 32 w)
even_signed w h = go (nat_lt w (2 ^ 31))
  where
    go : (b : Bool) → IsEven (cond b (pos w) (pos w -ℤ pos (2 ^ 32)))
    go true = (pos (w / 2), omega (arith, ints, h))
    go false = (pos (w / 2) -ℤ pos (2 ^ 31), omega (arith, ints, h))

-- the offset from one multiple of four to another is even
pub offset_even : (location to : ℕ) → location < 2 ^ 32 → to < 2 ^ 32 → location % 4 ≡ 0 →
    to % 4 ≡ 0 →
    IsEven (offset_to location to)
offset_even location to a b h k =
    even_signed ((to + (2 ^ 32 - location)) % 2 ^ 32) (omega (arith, a, b, h, k))
