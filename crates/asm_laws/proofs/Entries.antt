-- Looking up what was inserted.
use Rattle.std.proofs.Common.{◌≡◌, ℕ, true, false, List, [], ◌∷◌, Some, refl, Ordering}
use Rattle.std.proofs.Common.{subst}
use Rattle.std.specs.declared.cmp.Ordering.TheVariants.{Less, Equal, Greater}
use Rattle.std.specs.Cmp.{IsTotalOrder}
use Rattle.std.specs.List.{list_any}
use Rattle.std.specs.Map.{lookup}
use Rattle.std.specs.Ordering.{nat_cmp, match_ordering, is_eq}
use Rattle.std.specs.BTreeMap.{insert_entry, is_at}
use Rattle.std.specs.BTreeSet.{insert_key}
use Rattle.std.proofs.lemmas.Cmp.{tied_itself}
use Rattle.std.proofs.lemmas.Map.Lookups.{CmpEqualImpliesEq}

module _ {K X : Type 0} {R : K → K → Ordering} (o : IsTotalOrder R) (exact : CmpEqualImpliesEq R)
    (k : K) (v : X) where
  pub found : (es : List (K × X)) → lookup (is_at (R k)) (insert_entry R es k v) ≡ Some v
  found [] = rw (tied_itself o k) refl
  found (e ∷ es) = go (R k e.0) refl (found es)
    where
      go : (r : Ordering) → R k e.0 ≡ r →
          lookup (is_at (R k)) (insert_entry R es k v) ≡ Some v →
          lookup (is_at (R k)) (match_ordering r ((k, v) ∷ e ∷ es) ((e.0, v) ∷ es)
          (e ∷ insert_entry R es k v)) ≡ Some v
      go Less h more = rw (tied_itself o k) refl
      go Equal h more = rw h refl
      go Greater h more = rw h more

  pub kept : (q : K) (es : List (K × X)) → is_eq (R q k) ≡ false →
      lookup (is_at (R q)) (insert_entry R es k v) ≡ lookup (is_at (R q)) es
  kept q [] h = rw h refl
  kept q (e ∷ es) h = go (R k e.0) refl (kept q es h)
    where
      go : (r : Ordering) → R k e.0 ≡ r →
          lookup (is_at (R q)) (insert_entry R es k v) ≡ lookup (is_at (R q)) es →
          lookup (is_at (R q)) (match_ordering r ((k, v) ∷ e ∷ es) ((e.0, v) ∷ es)
          (e ∷ insert_entry R es k v)) ≡ lookup (is_at (R q)) (e ∷ es)
      go Less g more = rw h refl
      go Equal g more =
          let here : is_eq (R q e.0) ≡ false = subst (λ x. is_eq (R q x)
          ≡ false) (exact k e.0 g) h in
          rw here refl
      go Greater g more = rw more refl

pub any_found : (a : ℕ) (xs : List ℕ) → {R : ℕ → ℕ → Ordering} → IsTotalOrder R →
    list_any (is_at (R a)) (insert_key R xs a) ≡ true
any_found a [] {R} o = rw (tied_itself o a) refl
any_found a (x ∷ xs) {R} o = go (R a x) refl (any_found a xs o)
  where
    go : (r : Ordering) → R a x ≡ r → list_any (is_at (R a)) (insert_key R xs a) ≡ true →
        list_any (is_at (R a)) (match_ordering r (a ∷ x ∷ xs) (x ∷ xs) (x ∷ insert_key R xs a))
        ≡ true
    go Less h more = rw (tied_itself o a) refl
    go Equal h more = rw h refl
    go Greater h more = rw h more

pub any_kept : (a b : ℕ) (xs : List ℕ) → is_eq (nat_cmp b a) ≡ false →
    list_any (is_at (nat_cmp b)) (insert_key nat_cmp xs a) ≡ list_any (is_at (nat_cmp b)) xs
any_kept a b [] h = rw h refl
any_kept a b (x ∷ xs) h = go (nat_cmp a x) (any_kept a b xs h)
  where
    go : (r : Ordering) →
        list_any (is_at (nat_cmp b)) (insert_key nat_cmp xs a) ≡ list_any (is_at (nat_cmp b)) xs →
        list_any (is_at (nat_cmp b)) (match_ordering r (a ∷ x ∷ xs) (x ∷ xs)
        (x ∷ insert_key nat_cmp xs a)) ≡ list_any (is_at (nat_cmp b)) (x ∷ xs)
    go Less more = rw h refl
    go Equal more = refl
    go Greater more = rw more refl
