-- The machine's quotient is the quotient truncated toward 0, in a word.
use Rattle.std.proofs.Common.{◌≡◌, ℕ, zero, suc, ◌/◌, ◌^◌, ◌<◌, ◌≤◌, ℤ}
use Rattle.std.proofs.Common.{pos, negsuc, ◌-ℤ◌, refl, ap, ◌∙◌, arith}
use Rattle.std.specs.Prelude.{neg_ℤ, int_div}
use Rattle.std.proofs.lemmas.Int.{ints, of_z-to_z}
use Rattle.std.proofs.Math.Nat.{div-le_self}
use lib.IntN.{nat_abs}
use lib.Signed.{mag}
use mir.Syntax.{w32}
use mir.Val.{of_z, to_z}
use Rattle.rv_exec.specs.Words.{word}
use Rattle.rv_exec.specs.Alu.{quotient}
use Rattle.rv_exec.proofs.Signs.{abs_within}

negated-is : (n : ℕ) → neg_ℤ (pos n) ≡ pos 0 -ℤ pos n
negated-is zero = refl
negated-is (suc n) = omega (arith, ints)

abs_negated : (n : ℕ) → nat_abs (neg_ℤ (pos n)) ≡ n
abs_negated zero = refl
abs_negated (suc n) = refl

quotient-is : (x y : ℤ) → int_div x y ≡ quotient x y
quotient-is (pos a) (pos b) = refl
quotient-is (pos a) (negsuc b) = negated-is (a / suc b)
quotient-is (negsuc a) (pos b) = negated-is (suc a / b)
quotient-is (negsuc a) (negsuc b) = refl

-- a quotient is no further from 0 than the dividend
not_above : (x y : ℤ) (m : ℕ) → nat_abs x ≤ m → nat_abs (int_div x y) ≤ m
not_above (pos a) (pos b) m h = omega (arith, div-le_self a b)
not_above (pos a) (negsuc b) m h = omega (arith, abs_negated (a / suc b), div-le_self a (suc b))
not_above (negsuc a) (pos b) m h = omega (arith, abs_negated (suc a / b), div-le_self (suc a) b)
not_above (negsuc a) (negsuc b) m h = omega (arith, div-le_self (suc a) (suc b))

-- the word of a number from -2 ^ 31 to 2 ^ 31
word-is : (z : ℤ) → nat_abs z ≤ 2 ^ 31 → of_z w32 z ≡ word z
word-is (pos n) h = omega arith
word-is (negsuc n) h = omega arith

word_small : (z : ℤ) → nat_abs z ≤ 2 ^ 31 → of_z w32 z < 2 ^ 32
word_small (pos n) h = omega arith
word_small (negsuc n) h = omega arith

pub quotient_word : (x y : ℤ) → mag x < 2 ^ 31 →
    of_z w32 (to_z w32 (of_z w32 (int_div x y))) ≡ word (quotient x y)
quotient_word x y h =
    let near = not_above x y (2 ^ 31) (abs_within x (2 ^ 31) h) in
    of_z-to_z w32 _ (word_small (int_div x y) near) ∙ word-is (int_div x y) near
    ∙ ap word (quotient-is x y)
