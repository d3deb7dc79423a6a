-- The kept feeds show the words of all feeds.
use Rattle.std.proofs.Common.{◌≡◌, ℕ, suc, ◌+◌, ◌-◌, ◌<◌, ◌≤◌, Bool, true, false}
use Rattle.std.proofs.Common.{cond, List, [], ◌∷◌, ◌++◌, reverse, drop, take, take_all}
use Rattle.std.proofs.Common.{length, find, Some, None, option_map, Option, nat_le}
use Rattle.std.proofs.Common.{nat_lt, not, refl, sym, ◌∙◌, ap, arith, length-drop}
use Rattle.std.proofs.lemmas.Bool.Decides.{nat_tests}
use Rattle.std.proofs.lemmas.List.{reverse-append, length-reverse, take-append-drop}
use Rattle.std.proofs.Math.Seq.{take-append_seam}
use Rattle.std.specs.List.{position, position_or_len}
use Rattle.fp_ports.specs.declared.feeds.Feed.{Feed}
use Rattle.fp_ports.specs.Kinds.{fed_word, kept_from}

-- the word of a cycle that isn't forgotten
pub fed_word-kept : (feeds : List Feed) (first c : ℕ) → first ≤ c →
    fed_word (kept_from first feeds) c ≡ fed_word feeds c
fed_word-kept [] first c l = refl
fed_word-kept (feed ∷ older) first c l =
    go (nat_le feed.at c) (nat_le feed.at first) refl refl (fed_word-kept older first c l)
  where
    go : (b d : Bool) → nat_le feed.at c ≡ b → nat_le feed.at first ≡ d →
        fed_word (kept_from first older) c ≡ fed_word older c →
        option_map (λ (f : Feed). f.word) (cond b (Some feed)
        (find (λ (f : Feed). nat_le f.at c) (cond d [] (kept_from first older))))
        ≡ option_map (λ (f : Feed). f.word)
        (cond b (Some feed) (find (λ (f : Feed). nat_le f.at c) older))
    go true d p q h = refl
    go false true p q h = absurd (grind (arith, nat_tests))
    go false false p q h = h

-- they are the newest ones, up to the first one at or before the cycle
pub kept-take : (feeds : List Feed) (first : ℕ) →
    take (suc (position_or_len (λ (f : Feed). nat_le f.at first) feeds)) feeds
    ≡ kept_from first feeds
kept-take [] first = refl
kept-take (feed ∷ older) first = go (nat_le feed.at first) (kept-take older first)
  where
    go : (b : Bool) → take (suc (position_or_len (λ (f : Feed). nat_le f.at first) older)) older
        ≡ kept_from first older →
        take (suc (cond (not b) (1 + position_or_len (λ (f : Feed). nat_le f.at first) older) 0))
        (feed ∷ older) ≡ feed ∷ cond b [] (kept_from first older)
    go true h = refl
    go false h =
        let e : 1 + position_or_len (λ (f : Feed). nat_le f.at first) older
        ≡ suc (position_or_len (λ (f : Feed). nat_le f.at first) older) = omega arith in
        ap (λ (k : ℕ). take (suc k) (feed ∷ older)) e ∙ ap (λ (fs : List Feed). feed ∷ fs) h

pub reverse-drop : (xs : List Feed) (i k : ℕ) → i + k ≡ length xs →
    reverse (drop i xs) ≡ take k (reverse xs)
reverse-drop xs i k e =
    let whole : reverse (drop i xs) ++ reverse (take i xs) ≡ reverse xs =
    sym (reverse-append (take i xs) (drop i xs)) ∙ ap reverse (take-append-drop i xs) in
    let count : length (reverse (drop i xs)) ≡ k =
    length-reverse (drop i xs) ∙ length-drop i xs ∙ omega (arith, e) in
    sym (take-append_seam (reverse (drop i xs)) (reverse (take i xs)))
    ∙ ap (λ (j : ℕ). take j (reverse (drop i xs) ++ reverse (take i xs))) count ∙ ap (take k) whole

-- the oldest ones, those before that one, are dropped
pub kept-some : (xs : List Feed) (first newer : ℕ) (r : Option ℕ) →
    r ≡ position (λ (f : Feed). nat_le f.at first) (reverse xs) → r ≡ Some newer →
    reverse (drop (length xs - newer - 1) xs) ≡ kept_from first (reverse xs)
kept-some xs first newer r is some =
    go (position_or_len (λ (f : Feed). nat_le f.at first) (reverse xs))
    (nat_lt (position_or_len (λ (f : Feed). nat_le f.at first) (reverse xs)) (length (reverse xs)))
    refl refl (sym is ∙ some)
  where
    go : (p : ℕ) (b : Bool) → position_or_len (λ (f : Feed). nat_le f.at first) (reverse xs) ≡ p →
        nat_lt (position_or_len (λ (f : Feed). nat_le f.at first) (reverse xs))
        (length (reverse xs)) ≡ b →
        cond b (Some (position_or_len (λ (f : Feed). nat_le f.at first) (reverse xs))) None
        ≡ Some newer → reverse (drop (length xs - newer - 1) xs) ≡ kept_from first (reverse xs)
    go p true e l s =
        let same : newer ≡ position_or_len (λ (f : Feed). nat_le f.at first) (reverse xs) = cc s in
        let within : position_or_len (λ (f : Feed). nat_le f.at first) (reverse xs)
        < length (reverse xs) = grind (arith, nat_tests) in
        let count : length (reverse xs) ≡ length xs = length-reverse xs in
        reverse-drop xs (length xs - newer - 1) (suc newer) (omega (arith, same, within, count))
        ∙ ap (λ (n : ℕ). take (suc n) (reverse xs)) same ∙ kept-take (reverse xs) first
    go p false e l s = absurd (cc s)

-- if there is none, all are kept
pub kept-none : (xs : List Feed) (first : ℕ) (r : Option ℕ) →
    r ≡ position (λ (f : Feed). nat_le f.at first) xs → r ≡ None → xs ≡ kept_from first xs
kept-none xs first r is none =
    go (nat_lt (position_or_len (λ (f : Feed). nat_le f.at first) xs) (length xs)) refl
    (sym is ∙ none)
  where
    go : (b : Bool) →
        nat_lt (position_or_len (λ (f : Feed). nat_le f.at first) xs) (length xs) ≡ b →
        cond b (Some (position_or_len (λ (f : Feed). nat_le f.at first) xs)) None ≡ None →
        xs ≡ kept_from first xs
    go true l s = absurd (cc s)
    go false l s =
        let past : length xs ≤ suc (position_or_len (λ (f : Feed). nat_le f.at first) xs) =
        grind (arith, nat_tests) in
        sym (take_all (suc (position_or_len (λ (f : Feed). nat_le f.at first) xs)) xs past)
        ∙ kept-take xs first
