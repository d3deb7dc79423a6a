-- The bit operations of the machine are the bitwise sums.
use Rattle.std.proofs.Common.{◌≡◌, ℕ, zero, suc, ◌+◌, ◌-◌, ◌*◌, ◌/◌, ◌%◌, ◌^◌, ◌<◌}
use Rattle.std.proofs.Common.{refl, sym, ◌∙◌, ap, arith, bit_and, bit_or, bit_xor}
use Rattle.std.proofs.lemmas.Nat.{xor_block, or_block, and_block, mod-pow-add, mod_below, pow_pos}
use Rattle.std.proofs.Math.Nat.{mod-eq_of_lt, mod-one}
use Rattle.rv_exec.specs.Words.{bitwise, bit}

-- an operation on numbers is a function of two bits at each index
pub record IsBitwise (operation f : ℕ → ℕ → ℕ) : Type 0 where
  pub none : operation 0 0 ≡ 0
  pub bits : (x y : ℕ) → x < 2 → y < 2 → operation x y ≡ f x y
  pub block : (k a b r s : ℕ) → r < 2 ^ k → s < 2 ^ k →
      operation (a * 2 ^ k + r) (b * 2 ^ k + s) ≡ operation a b * 2 ^ k + operation r s

top : (a k : ℕ) → a % 2 ^ suc k ≡ bit a k * 2 ^ k + a % 2 ^ k
top a k = ap (λ n. a % 2 ^ n) (omega arith) ∙ mod-pow-add a 1 k

bitwise_is : (operation f : ℕ → ℕ → ℕ) → IsBitwise operation f → (k a b : ℕ) →
    bitwise f k a b ≡ operation (a % 2 ^ k) (b % 2 ^ k)
unfolding bitwise
bitwise_is operation f law zero a b = rw (mod-one a, mod-one b) (sym law.none)
bitwise_is operation f law (suc k) a b =
    let first : bit a k < 2 = mod_below (a / 2 ^ k) 2 (omega arith) in
    let second : bit b k < 2 = mod_below (b / 2 ^ k) 2 (omega arith) in
    let low : a % 2 ^ k < 2 ^ k = mod_below a (2 ^ k) (pow_pos k) in
    let other : b % 2 ^ k < 2 ^ k = mod_below b (2 ^ k) (pow_pos k) in
    let rest = bitwise_is operation f law k a b in
    let here = law.bits (bit a k) (bit b k) first second in
    let whole = law.block k (bit a k) (bit b k) (a % 2 ^ k) (b % 2 ^ k) low other in
    rw (top a k, top b k, whole, here, rest) (omega arith)

bit_cases : (P : ℕ → Type 0) → P 0 → P 1 → (x : ℕ) → x < 2 → P x
bit_cases P p q zero h = p
bit_cases P p q (suc zero) h = q
bit_cases P p q (suc (suc x)) h = absurd (omega arith)

pub xor_is_bitwise : IsBitwise bit_xor (λ x y. (x + y) % 2)
xor_is_bitwise = record {
  none = refl;
  bits =
      λ x y h j. bit_cases (λ x. bit_xor x y ≡ (x + y) % 2)
      (bit_cases (λ y. bit_xor 0 y ≡ (0 + y) % 2) refl refl y j)
      (bit_cases (λ y. bit_xor 1 y ≡ (1 + y) % 2) refl refl y j) x h;
  block = xor_block;
}

pub or_is_bitwise : IsBitwise bit_or (λ x y. x + y - x * y)
or_is_bitwise = record {
  none = refl;
  bits =
      λ x y h j. bit_cases (λ x. bit_or x y ≡ x + y - x * y)
      (bit_cases (λ y. bit_or 0 y ≡ 0 + y - 0 * y) refl refl y j)
      (bit_cases (λ y. bit_or 1 y ≡ 1 + y - 1 * y) refl refl y j) x h;
  block = or_block;
}

pub and_is_bitwise : IsBitwise bit_and (λ x y. x * y)
and_is_bitwise = record {
  none = refl;
  bits =
      λ x y h j.
      bit_cases (λ x. bit_and x y ≡ x * y) (bit_cases (λ y. bit_and 0 y ≡ 0 * y) refl refl y j)
      (bit_cases (λ y. bit_and 1 y ≡ 1 * y) refl refl y j) x h;
  block = and_block;
}

-- at words
pub bitwise_word : (operation f : ℕ → ℕ → ℕ) → IsBitwise operation f → (a b : ℕ) → a < 2 ^ 32 →
    b < 2 ^ 32 → operation a b ≡ bitwise f 32 a b
bitwise_word operation f law a b h j =
    sym (bitwise_is operation f law 32 a b ∙ ap (λ x. operation x (b % 2 ^ 32)) (mod-eq_of_lt h)
    ∙ ap (operation a) (mod-eq_of_lt j))
