-- Masks, bit by bit.
use Rattle.std.proofs.Common.{◌≡◌, ◌<◌, ◌≤◌, ℕ, zero, suc, ◌+◌, ◌*◌, ◌/◌, ◌^◌}
use Rattle.std.proofs.Common.{◌==◌, Bool, true, false, List, [], ◌∷◌, map}
use Rattle.std.proofs.Common.{length, get_or, pow-suc, refl, ap, ◌∙◌, arith}
use Rattle.std.specs.Int.{bit_at}
use Rattle.std.proofs.lemmas.Nat.Bits.{bit_at-suc, bit_at-zero}
use Rattle.slot_table.specs.Masks.{bit_of, mask_of}

bit_small : (b : Bool) → bit_of b ≤ 1
bit_small true = omega arith
bit_small false = omega arith

pub bit_told : (b : Bool) → (bit_of b == 1) ≡ b
bit_told true = refl
bit_told false = refl

mask_half : (b : Bool) (n : ℕ) → (bit_of b + 2 * n) / 2 ≡ n
mask_half b n = omega (arith, bit_small b)

mask_lowest : (b : Bool) (n : ℕ) → bit_at (bit_of b + 2 * n) 0 ≡ bit_of b
mask_lowest b n = omega (arith, bit_small b)

-- a bit of a mask is that of its list
pub mask_bit : (bits : List Bool) (i : ℕ) → bit_at (mask_of bits) i ≡ bit_of (get_or bits i false)
unfolding mask_of
mask_bit [] i = bit_at-zero i
mask_bit (b ∷ bits) zero = mask_lowest b (mask_of bits)
mask_bit (b ∷ bits) (suc i) =
    bit_at-suc (bit_of b + 2 * mask_of bits) i ∙ ap (λ n. bit_at n i) (mask_half b (mask_of bits))
    ∙ mask_bit bits i

double : (b : Bool) (n p : ℕ) → n < p → bit_of b + 2 * n < p * 2
double b n p small = omega (arith, bit_small b, small)

pub mask_below : (bits : List Bool) (n : ℕ) → length bits ≡ n → mask_of bits < 2 ^ n
unfolding mask_of
mask_below [] n e = rw (← e) (omega arith)
mask_below (b ∷ bits) n e =
    rw (← e, pow-suc 2 (length bits))
    (double b (mask_of bits) (2 ^ length bits) (mask_below bits (length bits) refl))

-- a mask of eight elements, bit by bit
pub mask_of_eight : (test : ℕ → Bool) (xs : List ℕ) → length xs ≡ 8 →
    bit_of (test (get_or xs 0 0)) + bit_of (test (get_or xs 1 0)) * 2
    + bit_of (test (get_or xs 2 0)) * 4 + bit_of (test (get_or xs 3 0)) * 8
    + bit_of (test (get_or xs 4 0)) * 16 + bit_of (test (get_or xs 5 0)) * 32
    + bit_of (test (get_or xs 6 0)) * 64 + bit_of (test (get_or xs 7 0)) * 128
    ≡ mask_of (map test xs)
unfolding mask_of
mask_of_eight test (a ∷ b ∷ c ∷ d ∷ e ∷ f ∷ g ∷ h ∷ []) eight = omega arith
mask_of_eight test ([]) eight = absurd (omega (arith, eight))
mask_of_eight test (a ∷ []) eight = absurd (omega (arith, eight))
mask_of_eight test (a ∷ b ∷ []) eight = absurd (omega (arith, eight))
mask_of_eight test (a ∷ b ∷ c ∷ []) eight = absurd (omega (arith, eight))
mask_of_eight test (a ∷ b ∷ c ∷ d ∷ []) eight = absurd (omega (arith, eight))
mask_of_eight test (a ∷ b ∷ c ∷ d ∷ e ∷ []) eight = absurd (omega (arith, eight))
mask_of_eight test (a ∷ b ∷ c ∷ d ∷ e ∷ f ∷ []) eight = absurd (omega (arith, eight))
mask_of_eight test (a ∷ b ∷ c ∷ d ∷ e ∷ f ∷ g ∷ []) eight = absurd (omega (arith, eight))
mask_of_eight test (a ∷ b ∷ c ∷ d ∷ e ∷ f ∷ g ∷ h ∷ i ∷ more) eight = absurd (omega (arith, eight))
