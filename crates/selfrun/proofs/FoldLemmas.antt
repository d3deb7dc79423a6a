-- Hashes of a text, from the hashes of its parts.
use Rattle.std.proofs.Common.{◌≡◌, ℕ, ◌+◌, ◌-◌, ◌*◌, ◌/◌, ◌%◌, ◌^◌, ◌<◌, ◌≤◌}
use Rattle.std.proofs.Common.{List, [], ◌∷◌, ◌++◌, length, Bool, inl, inr}
use Rattle.std.proofs.Common.{arith, refl, ap, sym, subst, ◌∙◌, append_assoc}
use Rattle.std.specs.Prelude.{if◌then◌else◌, codes, decimal, replicate, slice_index_or, slice_set}
use Rattle.std.proofs.Math.Nat.{add-mod-mod, add-mul, mod-add-mod, mul_assoc}
use Rattle.std.proofs.lemmas.Nat.{mul-mod_first, mul-mod_second, mul-le}
use Rattle.std.proofs.lemmas.Bool.{cases_lt}
use Rattle.std.proofs.lemmas.Bool.Decides.{eqb_tells}
use Rattle.std.proofs.lemmas.Fmt.{decimal_digit, decimal_step}
use Rattle.std.proofs.lemmas.List.{get_or-set_other, get_or-set_same, length-append, replicate_more}
use Rattle.std.proofs.lemmas.Grind.{fold-append}
use Rattle.rv_exec.specs.declared.outcome.Effect.TheVariants.{Nothing, Reg, Store, Trap}
use Rattle.rv_exec.specs.declared.outcome.Event.{Event}
use Rattle.trace_print.specs.Digits.{hex_digit, hex, right, two_digits}
use Rattle.trace_print.specs.Text.{register_text, store_text, trap_text, effect_text, line_text}
use Rattle.selfrun.specs.declared.piece.Piece.{Piece}
use Rattle.selfrun.specs.Folds.{IsFirst, IsPiece, cycle_text, lower_text, name_text}
use Rattle.selfrun.specs.Folds.{pair_sum, pair_text, site_text, upper_text}
use Rattle.selfrun.specs.Text.{fold_of, with_byte}

-- a table with one more entry that is right
pub one_more : {X : Type 0} (Right : ℕ → X → Type 0) (xs : List X) (n : ℕ) (x d : X) →
    n < length xs → ((k : ℕ) → k < n → Right k (slice_index_or xs k d)) → Right n x →
    (k : ℕ) → k < n + 1 → Right k (slice_index_or (slice_set xs n x) k d)
one_more Right xs n x d within before here k below =
    elim (eqb_tells k n) [
      | inl is ↦
          subst (λ j. Right j (slice_index_or (slice_set xs n x) j d)) (sym is.1)
          (subst (Right n) (sym (get_or-set_same xs n x d within)) here)
      | inr not_is ↦
          subst (Right k) (sym (get_or-set_other xs n k x d not_is.1))
          (before k (omega (arith, below, not_is.1)))
    ]

-- the product fits in 64 bits
pub product_fits : (h w : ℕ) → h < 2 ^ 32 → w < 2 ^ 32 → h * w ≤ (2 ^ 32 - 1) * (2 ^ 32 - 1)
product_fits h w small few =
    mul-le h w (2 ^ 32 - 1) (2 ^ 32 - 1) (omega (arith, small)) (omega (arith, few))

pub folded-append : (h : ℕ) (xs ys : List ℕ) → fold_of h (xs ++ ys) ≡ fold_of (fold_of h xs) ys
unfolding fold_of
folded-append h xs ys = fold-append with_byte h xs ys

pub folded-one : (h byte : ℕ) → fold_of h (byte ∷ []) ≡ with_byte h byte
unfolding fold_of
folded-one h byte = refl

-- a truncated number in a product
cut : (x w b : ℕ) → (x % 2 ^ 32 * w + b) % 2 ^ 32 ≡ (x * w + b) % 2 ^ 32
cut x w b =
    sym (mod-add-mod (x % 2 ^ 32 * w) (2 ^ 32) b)
    ∙ ap (λ y. (y + b) % 2 ^ 32) (mul-mod_first x w (2 ^ 32)) ∙ mod-add-mod (x * w) (2 ^ 32) b

-- two bytes at once
two_bytes : (h a b : ℕ) → (h * 961 + (a * 31 + b)) % 2 ^ 32 ≡ with_byte (with_byte h a) b
two_bytes h a b =
    let sum : (h * 31 + a) * 31 + b ≡ h * 961 + (a * 31 + b) = omega arith in
    ap (λ x. x % 2 ^ 32) (sym sum) ∙ sym (cut (h * 31 + a) 31 b)

pub piece_empty : IsPiece (record { weight = 1; sum = 0 }) []
unfolding fold_of
piece_empty h small = omega (arith, small)

-- a text of one byte, and the two digits of a byte
pub piece_byte : (b sum : ℕ) → sum ≡ b → IsPiece (record { weight = 31; sum = sum }) (b ∷ [])
unfolding fold_of
piece_byte b sum is h small = ap (λ s. (h * 31 + s) % 2 ^ 32) (sym is)

pub piece_pair : (byte sum : ℕ) → sum ≡ pair_sum byte →
    IsPiece (record { weight = 961; sum = sum }) (pair_text byte)
unfolding fold_of
piece_pair byte sum is h small =
    sym (two_bytes h (hex_digit (byte / 16)) (hex_digit (byte % 16)))
    ∙ ap (λ s. (h * 961 + s) % 2 ^ 32) (sym is)

-- one text after another
pub piece_and : (p q : Piece) (xs ys : List ℕ) → IsPiece p xs → IsPiece q ys →
    IsPiece (record {
      weight = (p.weight * q.weight + 0) % 2 ^ 32;
      sum = (p.sum * q.weight + q.sum) % 2 ^ 32;
    }) (xs ++ ys)
piece_and p q xs ys first second h small =
    let w : ℕ = p.weight * q.weight + 0 in
    let s : ℕ = p.sum * q.weight + q.sum in
    let prefix : ℕ = h * p.weight + p.sum in
    let begun : fold_of h (xs ++ ys) ≡ fold_of (prefix % 2 ^ 32) ys =
    folded-append h xs ys ∙ ap (λ x. fold_of x ys) (first h small) in
    let ended : fold_of (prefix % 2 ^ 32) ys ≡ (prefix * q.weight + q.sum) % 2 ^ 32 =
    second (prefix % 2 ^ 32) (omega arith) ∙ cut prefix q.weight q.sum in
    let sum : prefix * q.weight + q.sum ≡ h * w + s =
    let left : prefix * q.weight ≡ h * p.weight * q.weight + p.sum * q.weight =
    add-mul (h * p.weight) p.sum q.weight in
    let inner : h * (p.weight * q.weight) ≡ h * p.weight * q.weight =
    sym (mul_assoc h p.weight q.weight) in
    let flat : p.weight * q.weight + 0 ≡ p.weight * q.weight = omega arith in
    rw flat (omega (arith, left, inner)) in
    let right_side : (h * (w % 2 ^ 32) + s % 2 ^ 32) % 2 ^ 32 ≡ (h * w + s) % 2 ^ 32 =
    add-mod-mod (h * (w % 2 ^ 32)) s (2 ^ 32)
    ∙ sym (mod-add-mod (h * (w % 2 ^ 32)) (2 ^ 32) s)
    ∙ ap (λ y. (y + s) % 2 ^ 32) (mul-mod_second h w (2 ^ 32))
    ∙ mod-add-mod (h * w) (2 ^ 32) s in
    begun ∙ ended ∙ ap (λ x. x % 2 ^ 32) sum ∙ sym right_side

-- one more space
pub blank_more : (p : Piece) (n : ℕ) → IsPiece p (replicate n 32 ++ 32 ∷ []) →
    IsPiece p (replicate (n + 1) 32)
blank_more p n is h small = ap (fold_of h) (sym (replicate_more n 32)) ∙ is h small

upper_some : (width tens : ℕ) → 0 < tens → upper_text width tens ≡ right width tens
unfolding upper_text
upper_some width tens some =
    elim (eqb_tells tens 0) [
      | inl is ↦ absurd (let none : tens ≡ 0 = is.1 in omega (arith, none, some))
      | inr not_is ↦ ap (λ (b : Bool). if b then replicate width 32 else right width tens) not_is.0
    ]

-- the last digit of a number that is right in some columns
pub right_last : (width n : ℕ) → n < 2 ^ 64 →
    right width n ≡ upper_text (width - 1) (n / 10) ++ (48 + n % 10) ∷ []
unfolding right upper_text
right_last width n small =
    elim (cases_lt n 10) [ inl few ↦ one few | inr many ↦ more many ]
  where
    one : n < 10 → right width n ≡ upper_text (width - 1) (n / 10) ++ (48 + n % 10) ∷ []
    one few =
        let none : n / 10 ≡ 0 = omega (arith, few) in
        let same : n % 10 ≡ n = omega (arith, few) in
        rw (decimal_digit n few, none, same) refl

    more : 10 ≤ n → right width n ≡ upper_text (width - 1) (n / 10) ++ (48 + n % 10) ∷ []
    more many =
        let last : List ℕ = (48 + n % 10) ∷ [] in
        let prefix : List ℕ = decimal (n / 10) in
        let long : length (prefix ++ last) ≡ length prefix + 1 = length-append prefix last in
        let fewer : width - (length prefix + 1) ≡ width - 1 - length prefix = omega arith in
        ap (λ ds. replicate (width - length ds) 32 ++ ds) (decimal_step n many small)
        ∙ ap (λ k. replicate (width - k) 32 ++ (prefix ++ last)) long
        ∙ ap (λ k. replicate k 32 ++ (prefix ++ last)) fewer
        ∙ sym (append_assoc (replicate (width - 1 - length prefix) 32) prefix last)
        ∙ ap (λ xs. xs ++ last) (sym (upper_some (width - 1) (n / 10) (omega (arith, many))))

pub upper_none : (p : Piece) (width tens : ℕ) → tens ≡ 0 → IsPiece p (replicate width 32) →
    IsPiece p (upper_text width tens)
unfolding upper_text
upper_none p width tens none is h small = rw none (is h small)

-- one more digit before the last one
pub upper_more : (p : Piece) (width less tens : ℕ) → tens < 2 ^ 64 → 0 < tens → less ≡ width - 1 →
    IsPiece p (upper_text less (tens / 10) ++ (48 + tens % 10) ∷ []) →
    IsPiece p (upper_text width tens)
upper_more p width less tens fits some one_less is h small =
    ap (fold_of h) (upper_some width tens some ∙ right_last width tens fits
    ∙ ap (λ k. upper_text k (tens / 10) ++ (48 + tens % 10) ∷ []) (sym one_less)) ∙ is h small

-- the text of a cycle, from its last digit and the digits before it
pub by_last : (cycle : ℕ) → cycle < 2 ^ 64 →
    (upper_text 9 (cycle / 10) ++ (48 + cycle % 10) ∷ []) ++ 32 ∷ [] ≡ cycle_text cycle
by_last cycle fits = ap (λ xs. xs ++ 32 ∷ []) (sym (right_last 10 cycle fits))

-- the text of a cycle, from its last two digits and the digits before them
pub by_last_two : (cycle : ℕ) → 100 ≤ cycle → cycle < 2 ^ 64 →
    upper_text 8 (cycle / 100) ++ lower_text (cycle % 100) ≡ cycle_text cycle
unfolding two_digits
by_last_two cycle many fits =
    let tens : ℕ = cycle / 10 in
    let prefix : List ℕ = upper_text 8 (cycle / 100) in
    let ten : cycle / 10 / 10 ≡ cycle / 100 = omega arith in
    let first : cycle / 10 % 10 ≡ cycle % 100 / 10 = omega arith in
    let last : cycle % 10 ≡ cycle % 100 % 10 = omega arith in
    let upper : upper_text 9 tens ≡ prefix ++ (48 + cycle % 100 / 10) ∷ [] =
    upper_some 9 tens (omega (arith, many)) ∙ right_last 9 tens (omega (arith, fits))
    ∙ ap (λ n. upper_text 8 n ++ (48 + cycle / 10 % 10) ∷ []) ten
    ∙ ap (λ n. prefix ++ (48 + n) ∷ []) first in
    let whole : right 10 cycle
    ≡ (prefix ++ (48 + cycle % 100 / 10) ∷ []) ++ (48 + cycle % 100 % 10) ∷ [] =
    right_last 10 cycle fits ∙ ap (λ xs. xs ++ (48 + cycle % 10) ∷ []) upper
    ∙ ap (λ n. (prefix ++ (48 + cycle % 100 / 10) ∷ []) ++ (48 + n) ∷ []) last in
    sym (ap (λ xs. xs ++ 32 ∷ []) whole ∙ simp append_assoc)

-- a cycle less than 100 after a first one has the same digits before the last two
pub is_kept : (cycle first : ℕ) → IsFirst first →
    cycle < 10 ^ 10 → (cycle + (2 ^ 64 - first)) % 2 ^ 64 < 100 →
    (100 ≤ cycle) × (first / 100 ≡ cycle / 100)
    × ((cycle + (2 ^ 64 - first)) % 2 ^ 64 ≡ cycle % 100)
is_kept cycle first (many, whole, few) fits within =
    let behind : first ≤ cycle = omega (arith, few, fits, within) in
    let lower : (cycle + (2 ^ 64 - first)) % 2 ^ 64 ≡ cycle - first =
    omega (arith, behind, few, fits, within) in
    let near : cycle - first < 100 = omega (arith, lower, within) in (
      omega (arith, many, behind),
      omega (arith, whole, behind, near),
      omega (arith, lower, whole, behind, near),
    )

-- the hash with a cycle, from the hashes of its two parts
pub cycle_parts : (h begun ended cycle : ℕ) → 100 ≤ cycle →
    cycle < 10 ^ 10 → begun ≡ fold_of h (upper_text 8 (cycle / 100)) →
    ended ≡ fold_of begun (lower_text (cycle % 100)) → ended ≡ fold_of h (cycle_text cycle)
cycle_parts h begun ended cycle many fits begins ends =
    ends ∙ ap (λ x. fold_of x (lower_text (cycle % 100))) begins
    ∙ sym (folded-append h (upper_text 8 (cycle / 100)) (lower_text (cycle % 100)))
    ∙ ap (fold_of h) (by_last_two cycle many (omega (arith, fits)))

-- a word's digits by its bytes
pub by_bytes : (w : ℕ) → w < 2 ^ 32 →
    (pair_text (w / 0x1000000) ++ pair_text (w / 0x10000 % 0x100))
    ++ (pair_text (w / 0x100 % 0x100) ++ pair_text (w % 0x100)) ≡ hex 8 w
unfolding hex
by_bytes w small =
    let two : w / 16 / 16 ≡ w / 0x100 = omega arith in
    let three : w / 0x100 / 16 ≡ w / 0x1000 = omega arith in
    let four : w / 0x1000 / 16 ≡ w / 0x10000 = omega arith in
    let five : w / 0x10000 / 16 ≡ w / 0x100000 = omega arith in
    let six : w / 0x100000 / 16 ≡ w / 0x1000000 = omega arith in
    let seven : w / 0x1000000 / 16 ≡ w / 0x10000000 = omega arith in
    let d7 : w / 0x10000000 % 16 ≡ w / 0x10000000 = omega (arith, small) in
    let d5 : w / 0x10000 % 0x100 / 16 ≡ w / 0x100000 % 16 = omega arith in
    let d4 : w / 0x10000 % 0x100 % 16 ≡ w / 0x10000 % 16 = omega arith in
    let d3 : w / 0x100 % 0x100 / 16 ≡ w / 0x1000 % 16 = omega arith in
    let d2 : w / 0x100 % 0x100 % 16 ≡ w / 0x100 % 16 = omega arith in
    let d1 : w % 0x100 / 16 ≡ w / 16 % 16 = omega arith in
    let d0 : w % 0x100 % 16 ≡ w % 16 = omega arith in
    rw (d5, d4, d3, d2, d1, d0, two, three, four, five, six, seven, d7) refl

-- the hash with the text of an effect, from the effect's fields
pub of_nothing : (h : ℕ) → with_byte h 45 ≡ fold_of h (effect_text Nothing)
unfolding fold_of effect_text
of_nothing h = refl

pub of_register : (h rd value : ℕ) →
    fold_of h (register_text rd value) ≡ fold_of h (effect_text (Reg rd value))
unfolding effect_text
of_register h rd value = refl

pub of_store : (h address size value : ℕ) →
    fold_of h (store_text address size value) ≡ fold_of h (effect_text (Store address size value))
unfolding effect_text
of_store h address size value = refl

pub of_trap : (h cause target : ℕ) →
    fold_of h (trap_text cause target) ≡ fold_of h (effect_text (Trap cause target))
unfolding effect_text
of_trap h cause target = refl

-- a register and its value, by their parts
pub register_parts : (h rd value : ℕ) →
    fold_of (fold_of h (name_text rd)) (hex 8 value) ≡ fold_of h (register_text rd value)
unfolding fold_of register_text two_digits
register_parts h rd value = refl

-- the hash with the address and value of a store, part by part
pub store_parts : (h a s v : ℕ) → s < 10 →
    fold_of (with_byte (with_byte (with_byte (with_byte (fold_of (with_byte h 91) (hex 8 a)) 93) 47)
    (48 + s)) 61) (hex 8 v) ≡ fold_of h (store_text a s v)
unfolding fold_of store_text
store_parts h a s v small =
    rw (decimal_digit s small) (sym
    (folded-append (with_byte h 91) (hex 8 a) (codes "]/" ++ ((48 + s) ∷ (codes "=" ++ hex 8 v)))))

-- the hash with a trap's cause and target, part by part
pub trap_parts : (h cause target : ℕ) → cause < 10 →
    fold_of (fold_of (with_byte (fold_of h (codes "trap ")) (48 + cause)) (codes " -> "))
    (hex 8 target) ≡ fold_of h (trap_text cause target)
unfolding fold_of trap_text
trap_parts h cause target small = rw (decimal_digit cause small) refl

-- the hash of a line, part by part
pub line_parts : (h : ℕ) (e : Event) →
    with_byte (fold_of (fold_of (fold_of h (cycle_text e.cycle)) (site_text e.pc e.word))
    (effect_text e.effect)) 10 ≡ fold_of h (line_text e)
unfolding line_text
line_parts h e =
    let cycle : List ℕ = cycle_text e.cycle in
    let site : List ℕ = site_text e.pc e.word in
    let effect : List ℕ = effect_text e.effect in
    sym (folded-one (fold_of (fold_of (fold_of h cycle) site) effect) 10)
    ∙ sym (folded-append (fold_of (fold_of h cycle) site) effect (10 ∷ []))
    ∙ sym (folded-append (fold_of h cycle) site (effect ++ 10 ∷ []))
    ∙ sym (folded-append h cycle (site ++ (effect ++ 10 ∷ [])))
    ∙ ap (fold_of h) (simp append_assoc)
