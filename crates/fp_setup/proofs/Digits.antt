-- A word as its nibbles.
use Rattle.std.proofs.Common.{IsTrue, subst, ◌∙◌, ◌^◌, ◌≤◌, ◌≡◌, ℕ, zero, suc, ◌+◌, ◌*◌}
use Rattle.std.proofs.Common.{◌/◌, ◌%◌, ◌^◌, ◌-◌, ◌<◌, ◌≤◌, Bool, true, nat_lt, List, []}
use Rattle.std.proofs.Common.{◌∷◌, length, get_or, drop, drop-cons, lit<, refl, ap, arith}
use Rattle.std.specs.List.{list_all}
use Rattle.std.proofs.lemmas.List.Sums.{AllPass-from_list_all}
use Rattle.std.proofs.lemmas.Bool.{and_parts, lt-ltb, ltb-true}
use Rattle.std.proofs.lemmas.Bool.Decides.{nat_tests}
use Rattle.std.proofs.Math.Nat.{pow-zero, pow-le-pow_left, pow-succ'}
use Rattle.std.proofs.Math.Nat.{mul-le-mul_left, mul-le-mul_right}
use Rattle.slot_table.specs.Nibbles.{nibbles}
use Rattle.slot_table.specs.Table.{is_table}
use Rattle.region_guard.specs.RegionsWord.{is_regions}
use Rattle.fp_setup.specs.declared.vocabulary.Words.{Words}
use Rattle.fp_setup.specs.declared.vocabulary.Words.TheVariants.{Slots, Owners, Modes}
use Rattle.fp_setup.specs.Vocabulary.{is_value, is_word}
use Rattle.fp_setup.specs.SetupOfTables.{word_of}

-- each is a digit of the base; of base 16, a nibble
abbrev pub are_digits : ℕ → List ℕ → Bool
are_digits base ns = list_all (λ n. nat_lt n base) ns

abbrev pub are_nibbles : List ℕ → Bool
are_nibbles ns = are_digits 16 ns

pub word_of-below : (base : ℕ) (ns : List ℕ) → are_digits base ns ≡ true →
    word_of base ns < base ^ length ns
word_of-below base [] h = rw pow-zero (lit< tt)
word_of-below base (n ∷ ns) h =
    let (here, more) = and_parts (nat_lt n base) (are_digits base ns) h in
    let below : word_of base ns + 1 ≤ base ^ length ns =
    omega (arith, word_of-below base ns more) in
    let small : n < base = ltb-true n base here in
    let times : base * (word_of base ns + 1) ≤ base * base ^ length ns =
    mul-le-mul_left base below in
    rw (pow-succ' base (length ns)) (omega (arith, times))

pub word_of-drop-below : (base : ℕ) (i : ℕ) (ns : List ℕ) → 0 < base → are_digits base ns ≡ true →
    word_of base (drop i ns) < base ^ length ns
word_of-drop-below base zero ns some h = word_of-below base ns h
word_of-drop-below base (suc i) [] some h = rw pow-zero (lit< tt)
word_of-drop-below base (suc i) (n ∷ ns) some h =
    let (here, more) = and_parts (nat_lt n base) (are_digits base ns) h in
    let below : word_of base (drop i ns) < base ^ length ns =
    word_of-drop-below base i ns some more in
    let times : 1 * base ^ length ns ≤ base * base ^ length ns =
    mul-le-mul_right (base ^ length ns) some in
    rw (pow-succ' base (length ns)) (omega (arith, below, times))

nibbles_of_eight : (a b c d e f g h : ℕ) → a < 16 → b < 16 →
    c < 16 → d < 16 → e < 16 → f < 16 → g < 16 → h < 16 →
    nibbles (word_of 16 (a ∷ b ∷ c ∷ d ∷ e ∷ f ∷ g ∷ h ∷ [])) ≡ a ∷ b ∷ c ∷ d ∷ e ∷ f ∷ g ∷ h ∷ []
unfolding nibbles
nibbles_of_eight a b c d e f g h a' b' c' d' e' f' g' h' =
    let w : ℕ =
    a + 16 * (b + 16 * (c + 16 * (d + 16 * (e + 16 * (f + 16 * (g + 16 * (h + 16 * 0))))))) in
    let is_a : w % 16 ≡ a = omega arith in
    let is_b : w / 16 % 16 ≡ b = omega arith in
    let is_c : w / 256 % 16 ≡ c = omega arith in
    let is_d : w / 4096 % 16 ≡ d = omega arith in
    let is_e : w / 65536 % 16 ≡ e = omega arith in
    let is_f : w / 1048576 % 16 ≡ f = omega arith in
    let is_g : w / 16777216 % 16 ≡ g = omega arith in
    let is_h : w / 268435456 % 16 ≡ h = omega arith in
    cc

-- each of them is below 16
nibble_at-below : (ns : List ℕ) → are_nibbles ns ≡ true → (k : ℕ) → k < length ns →
    get_or ns k 0 < 16
nibble_at-below ns h k within =
    let here : nat_lt (get_or ns k 0) 16 ≡ true =
    AllPass-from_list_all (λ n. nat_lt n 16) ns h k 0 within in
    grind (arith, nat_tests, here)

-- back from one digit to the one below it
pub word_of-back : (base : ℕ) (ns : List ℕ) (i : ℕ) → 0 < i → i ≤ length ns →
    word_of base (drop (i - 1) ns) ≡ get_or ns (i - 1) 0 + base * word_of base (drop i ns)
word_of-back base ns zero some within = absurd (omega arith)
word_of-back base ns (suc k) some within =
    let before : suc k - 1 ≡ k = omega arith in
    let inside : k < length ns = omega arith in
    rw before (ap (word_of base) (drop-cons ns k 0 inside))

-- a step of the loop, downwards
pub word_step : (base : ℕ) (ns : List ℕ) (i word n : ℕ) → 0 < i →
    i ≤ length ns → word ≡ word_of base (drop i ns) → n ≡ get_or ns (i - 1) 0 →
    base * word + n ≡ word_of base (drop (i - 1) ns)
word_step base ns i word n some within e f =
    rw (e, f, word_of-back base ns i some within) (omega arith)

-- a base with a digit isn't 0
base-some : (base : ℕ) (ns : List ℕ) → 0 < length ns → are_digits base ns ≡ true → 0 < base
base-some base [] some h = absurd (omega arith)
base-some base (n ∷ ns) some h =
    let (here, more) = and_parts (nat_lt n base) (are_digits base ns) h in
    let small : n < base = ltb-true n base here in
    omega arith

-- eight digits of a base up to 16 fit a word
pub word_step-fits : (base : ℕ) (ns : List ℕ) (i word n : ℕ) → base ≤ 16 → length ns ≡ 8 →
    are_digits base ns ≡ true → 0 < i → i ≤ length ns → word ≡ word_of base (drop i ns) →
    n ≡ get_or ns (i - 1) 0 → base * word + n < 2 ^ 32
word_step-fits base ns i word n few eight digits some within e f =
    let value : base * word + n ≡ word_of base (drop (i - 1) ns) =
    word_step base ns i word n some within e f in
    let below : word_of base (drop (i - 1) ns) < base ^ length ns =
    word_of-drop-below base (i - 1) ns (base-some base ns (omega arith) digits) digits in
    let power : base ^ length ns ≤ 16 ^ length ns = pow-le-pow_left few (length ns) in
    let most : 16 ^ length ns ≡ 2 ^ 32 = ap (λ k. 16 ^ k) eight in
    omega arith

pub word_of-small : (base : ℕ) (ns : List ℕ) → length ns ≡ 8 → are_digits base ns ≡ true →
    word_of base ns < base ^ 8
word_of-small base ns eight digits =
    subst (λ k. word_of base ns < base ^ k) eight (word_of-below base ns digits)

pub nibbles-word_of : (ns : List ℕ) → are_nibbles ns ≡ true → length ns ≡ 8 →
    nibbles (word_of 16 ns) ≡ ns
nibbles-word_of [] h eight = absurd (omega arith)
nibbles-word_of (a ∷ []) h eight = absurd (omega arith)
nibbles-word_of (a ∷ b ∷ []) h eight = absurd (omega arith)
nibbles-word_of (a ∷ b ∷ c ∷ []) h eight = absurd (omega arith)
nibbles-word_of (a ∷ b ∷ c ∷ d ∷ []) h eight = absurd (omega arith)
nibbles-word_of (a ∷ b ∷ c ∷ d ∷ e ∷ []) h eight = absurd (omega arith)
nibbles-word_of (a ∷ b ∷ c ∷ d ∷ e ∷ f ∷ []) h eight = absurd (omega arith)
nibbles-word_of (a ∷ b ∷ c ∷ d ∷ e ∷ f ∷ g ∷ []) h eight = absurd (omega arith)
nibbles-word_of (a ∷ b ∷ c ∷ d ∷ e ∷ f ∷ g ∷ h ∷ []) all eight =
    let every : (k : ℕ) → k < 8 → get_or (a ∷ b ∷ c ∷ d ∷ e ∷ f ∷ g ∷ h ∷ []) k 0 < 16 =
    nibble_at-below (a ∷ b ∷ c ∷ d ∷ e ∷ f ∷ g ∷ h ∷ []) all in
    nibbles_of_eight a b c d e f g h (every 0 (lit< tt)) (every 1 (lit< tt)) (every 2 (lit< tt))
    (every 3 (lit< tt)) (every 4 (lit< tt)) (every 5 (lit< tt)) (every 6 (lit< tt))
    (every 7 (lit< tt))
nibbles-word_of (a ∷ b ∷ c ∷ d ∷ e ∷ f ∷ g ∷ h ∷ i ∷ ns) all eight = absurd (omega arith)

small_value : (words : Words) (n : ℕ) → is_value words n ≡ true → n < 16
small_value Slots n h = grind (arith, nat_tests, h)
small_value Owners n h = grind (arith, nat_tests, h)
small_value Modes n h = grind (arith, nat_tests, h)

-- the values of a list's texts are nibbles
pub small_values : (words : Words) (ns : List ℕ) → list_all (is_value words) ns ≡ true →
    list_all (λ n. nat_lt n 16) ns ≡ true
small_values words [] h = refl
small_values words (n ∷ ns) h =
    let (here, more) = and_parts (is_value words n) (list_all (is_value words) ns) h in
    let small : nat_lt n 16 ≡ true = lt-ltb n 16 (small_value words n here) in
    rw (small, small_values words ns more)

pub nibbles_of_word : (ns : List ℕ) (word : ℕ) → word ≡ word_of 16 ns → are_nibbles ns ≡ true →
    length ns ≡ 8 → nibbles word ≡ ns
nibbles_of_word ns word is digits eight = ap nibbles is ∙ nibbles-word_of ns digits eight

-- a word of eight values of a list's texts is a valid register word
pub accepted : (words : Words) (ns : List ℕ) (word : ℕ) → nibbles word ≡ ns →
    list_all (is_value words) ns ≡ true → IsTrue (is_word words word)
unfolding is_table is_regions
accepted Slots ns word is values = rw (is, values) refl
accepted Owners ns word is values = rw (is, values) refl
accepted Modes ns word is values = refl

-- eight texts of a list
pub ruleset eight = (small_values, accepted)
