-- The items between separators, from an index of a list on.
use Rattle.std.proofs.Common.{◌≡◌, ℕ, suc, ◌<◌, ◌≤◌, ◌+◌, ◌-◌, Bool, true}
use Rattle.std.proofs.Common.{false, List, [], ◌∷◌, ◌++◌, length, take, drop}
use Rattle.std.proofs.Common.{get_or, refl, sym, ap, arith, add-one, length-drop}
use Rattle.std.proofs.Math.Seq.{drop-cons, take-suc}
use Rattle.std.proofs.lemmas.List.{get_or-drop, take_all}
use Rattle.std.proofs.Math.ListN.{drop_of_length-le}
use Rattle.fp_asm.specs.Between.{between_from, between}

module _ {A B : Type 0} (p : A → Bool) (ended last : List A → B) where
  -- from index i on, where the item at hand begins at `start`
  pub cut : List A → ℕ → ℕ → List B
  cut xs start i = between_from p ended last (take (i - start) (drop start xs)) (drop i xs)

  pub cut_start : (xs : List A) → between p ended last xs ≡ cut xs 0 0
  unfolding cut
  cut_start xs = refl

  module _ (xs : List A) (start i : ℕ) (d : A) where
    here : i < length xs → drop i xs ≡ get_or xs i d ∷ drop (i + 1) xs
    here h = rw (add-one i) (drop-cons xs i d h)

    grown : i < length xs → start ≤ i → take (i - start) (drop start xs) ++ get_or xs i d ∷ []
        ≡ take ((i + 1) - start) (drop start xs)
    grown h k =
        let same : start + (i - start) ≡ i = omega (arith, k) in
        let more : suc (i - start) ≡ (i + 1) - start = omega (arith, k) in
        let inside : i - start < length (drop start xs) = rw length-drop (omega (arith, h, k)) in
        sym (rw (get_or-drop, same, more) at (take-suc (drop start xs) (i - start) d inside))

    pub cut_ends : i < length xs → p (get_or xs i d) ≡ true →
        cut xs start i ≡ ended (take (i - start) (drop start xs)) ∷ cut xs (i + 1) (i + 1)
    unfolding cut between_from
    cut_ends h e =
        let none : 0 ≡ (i + 1) - (i + 1) = omega arith in
        rw (here h, e) (ap (λ k. ended (take (i - start) (drop start xs))
        ∷ between_from p ended last (take k (drop (i + 1) xs)) (drop (i + 1) xs)) none)

    pub cut_on : i < length xs → start ≤ i → p (get_or xs i d) ≡ false →
        cut xs start i ≡ cut xs start (i + 1)
    unfolding cut between_from
    cut_on h k e =
        rw (here h, e) (ap (λ l. between_from p ended last l (drop (i + 1) xs)) (grown h k))

  pub cut_last : (xs : List A) (start i : ℕ) → length xs ≤ i → start ≤ i →
      cut xs start i ≡ last (drop start xs) ∷ []
  unfolding cut between_from
  cut_last xs start i h k =
      let all : length (drop start xs) ≤ i - start = rw length-drop (omega (arith, h, k)) in
      rw (drop_of_length-le xs h) (ap (λ l. last l ∷ []) (take_all (i - start) (drop start xs) all))
