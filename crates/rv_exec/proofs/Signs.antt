-- Words read with a sign, and their products.
use Rattle.std.proofs.Common.{◌≡◌, ℕ, ◌-◌, ◌^◌, ◌<◌, ◌≤◌, ℤ, pos, negsuc, ◌*ℤ◌}
use Rattle.std.proofs.Common.{Bool, true, false, nat_lt, refl, ap, ◌∙◌, arith}
use Rattle.std.proofs.lemmas.Int.{ints, to_z-of_z, fits_signed_mul}
use lib.IntN.{nat_abs}
use lib.Signed.{mag}
use mir.Syntax.{Width, w16, w32, w64}
use mir.Val.{SFits, of_z, to_z}
use Rattle.rv_exec.specs.Words.{signed}
use Rattle.rv_exec.specs.Access.{sign_extension}

-- the code's reading of a word is that of the manual
pub signed-is : (a : ℕ) → a < 2 ^ 32 → to_z w32 a ≡ signed a
signed-is a h = by_test (nat_lt a (2 ^ 31)) refl
  where
    by_test : (b : Bool) → nat_lt a (2 ^ 31) ≡ b → to_z w32 a ≡ signed a
    by_test true e = rw e refl
    by_test false e = rw e (omega (arith, ints))

-- the absolute value of a number that a word holds with its sign
pub abs_within : (x : ℤ) (m : ℕ) → mag x < m → nat_abs x ≤ m
abs_within (pos n) m h = omega arith
abs_within (negsuc n) m h = omega arith

-- the product of a word with a sign and one that has a sign or none
product_fits : (x y : ℤ) → mag x < 2 ^ 31 → nat_abs y < 2 ^ 32 → SFits w64 (x *ℤ y)
product_fits x y h k =
    fits_signed_mul w64 x y (2 ^ 31) (2 ^ 32 - 1) (abs_within x (2 ^ 31) h)
    (omega arith) (omega arith)

-- so the product is the same if the factors and the product are read in 64 bits
pub product_read : (x y : ℤ) → mag x < 2 ^ 31 → nat_abs y < 2 ^ 32 → mag y < 2 ^ 63 →
    to_z w64 (of_z w64 (to_z w64 (of_z w64 x) *ℤ to_z w64 (of_z w64 y))) ≡ x *ℤ y
product_read x y h k j =
    let first : SFits w64 x = record { sfits = omega arith } in
    let second : SFits w64 y = record { sfits = j } in
    rw (to_z-of_z w64 x first, to_z-of_z w64 y second)
    (to_z-of_z w64 (x *ℤ y) (product_fits x y h k))

-- a word that was read with a sign, in a wider type
pub widened : (a : ℕ) (s x : ℤ) → a < 2 ^ 32 → mag s < 2 ^ 31 → s ≡ to_z w32 a →
    x ≡ to_z w32 (of_z w32 s) → (x ≡ signed a) × (mag x < 2 ^ 31)
widened a s x h k e f =
    let fits : SFits w32 s = record { sfits = k } in
    let same : x ≡ s = f ∙ to_z-of_z w32 s fits in
    (same ∙ e ∙ signed-is a h, rw same k)

-- a number that was read with its sign, in a word
pub extended_word : (w : Width) (s f : ℤ) (r : ℕ) → SFits w s → SFits w32 f →
    f ≡ to_z w (of_z w s) → r ≡ of_z w32 (to_z w32 (of_z w32 f)) → r ≡ of_z w32 s
extended_word w s f r p q e g = g ∙ ap (of_z w32) (to_z-of_z w32 f q ∙ e ∙ to_z-of_z w s p)

-- two bytes with their sign
pub half_extended : (n : ℕ) → n < 2 ^ 16 → of_z w32 (to_z w16 n) ≡ sign_extension 2 n
half_extended n h = by_test (nat_lt n (2 ^ 15)) refl
  where
    by_test : (b : Bool) → nat_lt n (2 ^ 15) ≡ b → of_z w32 (to_z w16 n) ≡ sign_extension 2 n
    by_test true e = rw e refl
    by_test false e = rw e (omega arith)
