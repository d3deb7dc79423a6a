-- A list with an element for each word, and one more word.
use Rattle.std.proofs.Common.{◌≡◌, ℕ, ◌+◌, ◌*◌, ◌<◌, ◌⊎◌, inl, inr, arith, sym, subst, length}
use Rattle.std.proofs.Common.{List, [], ◌∷◌, ◌++◌, slice_index_or, Option, None, Bool, false}
use Rattle.std.proofs.lemmas.List.{get_or_append_left, get_or_push, length_push}
use Rattle.region_tree.specs.declared.section.Section.{Section}
use Rattle.call_bounds.specs.Calls.{returns}
use Rattle.call_bounds.specs.Listing.{Listing, calls, function_at}
use Rattle.call_bounds.specs.Functions.{IsCallee}
use Rattle.call_bounds.specs.Summaries.{AreCallees, AreReturns}

-- the element at an index of a list with one more element
each-more : {X : Type 0} (P : ℕ → X → Type 0) (xs : List X) (y d : X) (n : ℕ) → length xs ≡ n →
    ((k : ℕ) → k < n → P k (slice_index_or xs k d)) → P n y → (k : ℕ) → k < n + 1 →
    P k (slice_index_or (xs ++ y ∷ []) k d)
each-more {X} P xs y d n len before last k lt = go (let z : (k < n) ⊎ (k ≡ n) = grind arith in z)
  where
    go : (k < n) ⊎ (k ≡ n) → P k (slice_index_or (xs ++ y ∷ []) k d)
    go (inl below) =
        subst (λ (x : X). P k x) (sym (get_or_append_left xs (y ∷ []) d k (omega arith)))
        (before k below)
    go (inr same) =
        subst (λ k. P k (slice_index_or (xs ++ y ∷ []) k d)) (sym same)
        (subst (λ (x : X). P n x) (sym (get_or_push xs y d n len)) last)

pub callees-more : (l : Listing) (s : Section) (n : ℕ) (callees new : List (Option ℕ))
    (o : Option ℕ) → new ≡ callees ++ o ∷ [] → AreCallees l s n callees →
    IsCallee l (s.from + 4 * n) o → AreCallees l s (n + 1) new
callees-more l s n callees new o put are here = subst (AreCallees l s (n + 1)) (sym put) (record {
  count = let e = length_push callees o in omega (arith, are.count);
  each = each-more (λ k o. IsCallee l (s.from + 4 * k) o) callees o None n are.count are.each here;
})

pub returns-more : (l : Listing) (function : ℕ) (s : Section) (n : ℕ) (ends new : List Bool)
    (b : Bool) → new ≡ ends ++ b ∷ [] → AreReturns l function s n ends →
    b ≡ returns (calls l) (function_at l function) (s.from + 4 * n) → AreReturns l function
    s (n + 1) new
returns-more l function s n ends new b put are here =
    subst (AreReturns l function s (n + 1)) (sym put) (record {
      count = let e = length_push ends b in omega (arith, are.count);
      each =
          each-more (λ k b. b ≡ returns (calls l) (function_at l function) (s.from + 4 * k))
          ends b false n
          are.count are.each here;
    })
