-- A port that was fed shows the inputs, and before them the words that it showed before.
use Rattle.std.proofs.Common.{◌≡◌, ℕ, zero, suc, ◌+◌, ◌<◌, ◌≤◌, ◌^◌, Bool, true, false}
use Rattle.std.proofs.Common.{cond, List, [], ◌∷◌, reverse, map, find, Some, None}
use Rattle.std.proofs.Common.{Option, option_map, unwrap_or, if◌then◌else◌, nat_le}
use Rattle.std.proofs.Common.{nat_lt, refl, sym, ◌∙◌, ap, ap₂, arith, true≢false}
use Rattle.std.proofs.lemmas.List.{reverse-append}
use Rattle.std.proofs.lemmas.Bool.{lt-ltb}
use Rattle.std.proofs.lemmas.List.Folds.{find-append}
use Rattle.std.specs.List.{range_with_len}
use Rattle.std.specs.Option.{option_or}
use Rattle.fp_ports.specs.PluggedPorts.{Row, word_seen, fed, fed_all, claim_of}
use Rattle.fp_ports.specs.ShownWords.{is_gone, input_at, shown_at, shown}

-- an additional first input counts if no later one does
input_at-cons : (input : ℕ × ℕ) (inputs : List (ℕ × ℕ)) (c d : ℕ) →
    unwrap_or (input_at (input ∷ inputs) c) d
    ≡ unwrap_or (input_at inputs c) (if nat_le input.0 c then input.1 else d)
input_at-cons input inputs c d =
    ap (λ (o : Option (ℕ × ℕ)). unwrap_or (option_map (λ i. i.1) o) d)
    (ap (find (λ (i : ℕ × ℕ). nat_le i.0 c)) (reverse-append (input ∷ []) inputs)
    ∙ find-append (λ (i : ℕ × ℕ). nat_le i.0 c) (reverse inputs) (input ∷ []))
    ∙ by_cases (find (λ (i : ℕ × ℕ). nat_le i.0 c) (reverse inputs)) (nat_le input.0 c)
  where
    by_cases : (o : Option (ℕ × ℕ)) (b : Bool) →
        unwrap_or (option_map (λ (i : ℕ × ℕ). i.1) (option_or o (cond b (Some input) None))) d
        ≡ unwrap_or (option_map (λ (i : ℕ × ℕ). i.1) o) (cond b input.1 d)
    by_cases (Some i) b = refl
    by_cases None true = refl
    by_cases None false = refl

word_seen-fed : (row : Row) (at word c : ℕ) → c < 2 ^ 64 →
    word_seen (fed (Some row) at word) c ≡ (if nat_le at c then word else row.words c)
word_seen-fed row at word c low = within (nat_lt c (2 ^ 64)) (lt-ltb c (2 ^ 64) low)
  where
    within : (b : Bool) → b ≡ true →
        cond b (cond (nat_le at c) word (row.words c)) 0 ≡ cond (nat_le at c) word (row.words c)
    within true is = refl
    within false is = absurd (true≢false (sym is))

-- the word that is seen at a port that was fed
pub word_seen-fed_all : (inputs : List (ℕ × ℕ)) (row : Row) (c : ℕ) → c < 2 ^ 64 →
    word_seen (fed_all (Some row) inputs) c ≡ unwrap_or (input_at inputs c) (row.words c)
word_seen-fed_all [] row c low = refl
word_seen-fed_all (input ∷ inputs) row c low =
    word_seen-fed_all inputs
    (record row { words = claim_of (λ k. if nat_le input.0 k then input.1 else row.words k) }) c low
    ∙ ap (unwrap_or (input_at inputs c)) (word_seen-fed row input.0 input.1 c low)
    ∙ sym (input_at-cons input inputs c (row.words c))

same_words : (f g : ℕ → ℕ) (a n : ℕ) → ((c : ℕ) → c < a + n → f c ≡ g c) →
    map f (range_with_len a n) ≡ map g (range_with_len a n)
same_words f g a zero same = refl
same_words f g a (suc n) same =
    ap₂ (λ x (xs : List ℕ). x ∷ xs) (same a (omega arith))
    (same_words f g (a + 1) n (λ c low. same c (omega arith)))

fed_all-None : (inputs : List (ℕ × ℕ)) → fed_all None inputs ≡ None
fed_all-None [] = refl
fed_all-None (input ∷ inputs) = fed_all-None inputs

fed_all-Some : (inputs : List (ℕ × ℕ)) (row : Row) →
    (after : Row) × (fed_all (Some row) inputs ≡ Some after)
fed_all-Some [] row = (row, refl)
fed_all-Some (input ∷ inputs) row =
    fed_all-Some inputs
    (record row { words = claim_of (λ k. if nat_le input.0 k then input.1 else row.words k) })

shown_at-fed_all : (row : Option Row) (inputs : List (ℕ × ℕ)) (unplug : Option ℕ) (c : ℕ) →
    c < 2 ^ 64 → shown_at (fed_all row inputs) [] unplug c ≡ shown_at row inputs unplug c
shown_at-fed_all None inputs unplug c low =
    ap (λ (r : Option Row). shown_at r [] unplug c) (fed_all-None inputs)
shown_at-fed_all (Some row) inputs unplug c low =
    let after = fed_all-Some inputs row in
    ap (λ (r : Option Row). shown_at r [] unplug c) after.1
    ∙ ap (λ w. if is_gone unplug c then 0xffffffff else w)
    (sym (ap (λ (r : Option Row). word_seen r c) after.1) ∙ word_seen-fed_all inputs row c low)

-- A thread finds the same words at its port before feeding, with the inputs, and after feeding,
-- without them.
pub shown-fed_all : (row : Option Row) (inputs : List (ℕ × ℕ)) (unplug : Option ℕ) (n : ℕ) →
    n ≤ 2 ^ 64 → shown (fed_all row inputs) [] unplug n ≡ shown row inputs unplug n
shown-fed_all row inputs unplug n few =
    same_words (shown_at (fed_all row inputs) [] unplug) (shown_at row inputs unplug) 0 n
    (λ c low. shown_at-fed_all row inputs unplug c (omega arith))
