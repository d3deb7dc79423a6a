-- Pieces of a line, written one after another.
use Rattle.std.proofs.Common.{◌≡◌, ℕ, ◌+◌, ◌-◌, ◌/◌, ◌%◌, ◌^◌, ◌<◌, ◌≤◌, List}
use Rattle.std.proofs.Common.{[], ◌∷◌, ◌++◌, length, take, refl, inl, inr}
use Rattle.std.proofs.Common.{ap, sym, ◌∙◌, arith, append_assoc, take-take}
use Rattle.std.specs.Prelude.{decimal, codes, replicate}
use Rattle.std.proofs.lemmas.Fmt.{length-decimal-le, decimal_digit}
use Rattle.std.proofs.lemmas.List.{take-append-le, take_all}
use Rattle.itoa.proofs.Decimal.{decimal_four, length_four}
use Rattle.rv_exec.specs.Line.{IsWidth}
use Rattle.trace_print.specs.Digits.{hex, two_digits, right}
use Rattle.rv_exec.specs.declared.outcome.Effect.{Effect}
use Rattle.trace_print.specs.Kept.{IsKept}
use Rattle.trace_print.specs.Text.{effect_text, line_text}
use Rattle.trace_print.proofs.Lengths.{length-right}

-- the digits of a word, byte by byte
hex_by_bytes : (w : ℕ) →
    hex 8 w ≡ ((hex 2 (w / 0x1000000) ++ hex 2 (w / 0x10000 % 0x100)) ++ hex 2 (w / 0x100 % 0x100))
    ++ hex 2 (w % 0x100)
unfolding hex
hex_by_bytes w =
    let a : w / 16 / 16 / 16 / 16 / 16 / 16 / 16 % 16 ≡ w / 0x1000000 / 16 % 16 = omega arith in
    let b : w / 16 / 16 / 16 / 16 / 16 / 16 % 16 ≡ w / 0x1000000 % 16 = omega arith in
    let c : w / 16 / 16 / 16 / 16 / 16 % 16 ≡ w / 0x10000 % 0x100 / 16 % 16 = omega arith in
    let d : w / 16 / 16 / 16 / 16 % 16 ≡ w / 0x10000 % 0x100 % 16 = omega arith in
    let e : w / 16 / 16 / 16 % 16 ≡ w / 0x100 % 0x100 / 16 % 16 = omega arith in
    let f : w / 16 / 16 % 16 ≡ w / 0x100 % 0x100 % 16 = omega arith in
    let g : w / 16 % 16 ≡ w % 0x100 / 16 % 16 = omega arith in
    let h : w % 16 ≡ w % 0x100 % 16 = omega arith in
    rw (a, b, c, d, e, f, g, h) refl

-- a word after the text so far, byte by byte
pub word_behind : (before : List ℕ) (w : ℕ) →
    (((before ++ hex 2 (w / 0x1000000)) ++ hex 2 (w / 0x10000 % 0x100))
    ++ hex 2 (w / 0x100 % 0x100)) ++ hex 2 (w % 0x100) ≡ before ++ hex 8 w
word_behind before w = rw (hex_by_bytes w) (simp append_assoc)

-- the upper and the lower columns of a number with five to ten digits
right-parts : (n : ℕ) → 10000 ≤ n → n < 10 ^ 10 → right 10 n
    ≡ right 6 (n / 10000) ++ (two_digits (n % 10000 / 100) ++ two_digits (n % 10000 % 100))
unfolding right two_digits
right-parts n low high =
    let digits = decimal_four n low (omega arith) in
    let long = length_four n low (omega arith) in
    let width : 10 - length (decimal n) ≡ 6 - length (decimal (n / 10000)) = omega (arith, long) in
    rw (width, digits)
    (sym (append_assoc (replicate (6 - length (decimal (n / 10000))) 32) (decimal (n / 10000)) _))

length-upper : (n : ℕ) → n < 10 ^ 10 → length (right 6 (n / 10000)) ≡ 6
length-upper n high =
    length-right 6 (n / 10000)
    (length-decimal-le 6 (n / 10000) (omega arith) (omega arith) (omega arith))

length-width : (n : ℕ) → n < 10 ^ 10 → length (right 10 n) ≡ 10
length-width n high = length-right 10 n (length-decimal-le 10 n (omega arith) high (omega arith))

-- a cycle whose digits are already in the text
pub stands : (new bytes : List ℕ) (n : ℕ) → n < 10 ^ 10 → take (0 + length bytes) new ≡ bytes →
    bytes ≡ right 10 n → take 10 new ≡ right 10 n
stands new bytes n high written is =
    let long : length bytes ≡ 10 = ap length is ∙ length-width n high in
    let ten : 10 ≡ 0 + length bytes = omega (arith, long) in
    ap (λ k. take k new) ten ∙ written ∙ is

-- its upper columns are those of the 10,000 cycles from a multiple of 10,000 on
pub kept_from : (n : ℕ) (text : List ℕ) → take 10 text ≡ right 10 n → 10000 ≤ n → n < 10 ^ 10 →
    IsKept (n - n % 10000) text
kept_from n text is low high =
    λ lower small inside.
    let upper : (n - n % 10000 + lower) / 10000 ≡ n / 10000 = omega arith in
    let rest : (n - n % 10000 + lower) % 10000 ≡ lower = omega arith in
    let six : take 6 text ≡ right 6 (n / 10000) =
    sym (take-take 6 10 text (omega arith)) ∙ ap (take 6) (is ∙ right-parts n low high)
    ∙ take-append-le 6 (right 6 (n / 10000)) _ (omega (arith, length-upper n high))
    ∙ take_all 6 (right 6 (n / 10000)) (omega (arith, length-upper n high)) in
    rw (right-parts (n - n % 10000 + lower) (omega arith) inside, upper, rest, six) refl

-- other bytes after the cycle leave its digits
pub upper_left : (n m : ℕ) (before after more : List ℕ) → n < 10 ^ 10 →
    take 10 before ≡ right 10 n → take m after ≡ take 10 before ++ more → 6 ≤ m →
    take 6 after ≡ take 6 before
upper_left n m before after more high is written inside =
    let long : length (take 10 before) ≡ 10 = ap length is ∙ length-width n high in
    sym (take-take 6 m after inside) ∙ ap (take 6) written
    ∙ take-append-le 6 (take 10 before) more (omega (arith, long))
    ∙ take-take 6 10 before (omega arith)

pub kept_on : (first : ℕ) (before after : List ℕ) → take 6 after ≡ take 6 before →
    IsKept first before → IsKept first after
kept_on first before after same kept = λ lower small inside. rw same (kept lower small inside)

-- the digit of a store's width
pub narrow : (size : ℕ) → IsWidth size → size < 10
narrow size width = elim width [
  | inl e ↦ omega arith
  | inr r ↦ elim r [ inl e ↦ omega arith | inr e ↦ omega arith ]
]

pub width_text : (size : ℕ) → IsWidth size → decimal size ≡ (48 + size) ∷ []
width_text size width = decimal_digit size (narrow size width)

-- the part of a line after its cycle
abbrev pub behind : ℕ → ℕ → Effect → List ℕ
behind pc word effect =
    codes " " ++ (hex 8 pc
    ++ (codes " " ++ (hex 8 word ++ (codes " " ++ (effect_text effect ++ codes "\n")))))

-- it is written in seven pieces
pub pieces : (a b c d e f g h : List ℕ) (end pc word : ℕ) (effect : Effect) →
    take 11 b ≡ take 10 a ++ 32 ∷ [] → take 19 c ≡ take 11 b ++ hex 8 pc →
    take 20 d ≡ take 19 c ++ 32 ∷ [] → take 28 e ≡ take 20 d ++ hex 8 word →
    take 29 f ≡ take 28 e ++ 32 ∷ [] → take end g ≡ take 29 f ++ effect_text effect →
    take (end + 1) h ≡ take end g ++ 10 ∷ [] → take (end + 1) h ≡ take 10 a ++ behind pc word effect
pieces a b c d e f g h end pc word effect p q r s t u v =
    rw (v, u, t, s, r, q, p) (simp append_assoc)

-- a line is its cycle and the part after it
pub line_is : (cycle pc word thread : ℕ) (effect : Effect) (text : List ℕ) →
    take 10 text ≡ right 10 cycle →
    take 10 text ++ behind pc word effect
    ≡ line_text (record { cycle = cycle; thread = thread; pc = pc; word = word; effect = effect })
unfolding line_text
line_is cycle pc word thread effect text is = ap (λ front. front ++ behind pc word effect) is
