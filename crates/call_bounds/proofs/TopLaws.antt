-- The largest cost at any of the words of a section.
use Rattle.std.proofs.Common.{◌≡◌, ℕ, ◌+◌, ◌-◌, ◌<◌, ◌≤◌, ◌⊎◌, ◌∙◌, refl, arith, min, ap, sym}
use Rattle.std.proofs.Common.{inl, inr, subst, List, [], ◌∷◌, ◌++◌, Bool, true, false}
use Rattle.std.proofs.lemmas.List.{get_or_append_left, get_or-append_right, length_push}
use Rattle.std.proofs.Common.{slice_index_or}
use Rattle.region_tree.specs.Tree.{Tree}
use Rattle.region_tree.specs.Walk.{Positions}
use Rattle.bound_calc.specs.Best.{Costs, Either, IsBest, ceiling}
use Rattle.bound_calc.specs.Matrices.{entry}
use Rattle.bound_calc.specs.Passing.{ReachesAt}
use Rattle.bound_calc.specs.Propagation.{CostsOn, matrix_at, no_matrix}
use Rattle.bound_calc.specs.Tops.{IsTop}
use Rattle.bound_calc.specs.declared.matrix.Matrix.{Matrix}
use Rattle.bound_calc.proofs.PassLaws.{reach-more}
use Rattle.bound_calc.proofs.TopLaws.{top-none}
use Rattle.call_bounds.specs.Summaries.{Any, EndsAt, ExitCostsAt, When}
use Rattle.call_bounds.specs.Tops.{EndsBy, IsMostBelow}
use Rattle.call_bounds.proofs.AnyLaws.{Alike}

≤-step : (a b c : ℕ) → a ≤ b → b ≤ c → a ≤ c
≤-step a b c h h' = omega arith

over : (c e n most : ℕ) → min c n ≤ e → min e n ≤ most → min c n ≤ most
over c e n most h h' = omega arith

-- of sets of which each cost of the one has one of the other
pub top-alike : {f g : Costs} {old new : ℕ} → Alike f g → IsTop g old new → IsTop f old new
top-alike {f} {g} {old} {new} a t = record {
  stays = t.stays;
  upper = λ p c q x. let y = a.covers p c q x in
      over c y.0 ceiling new y.2 (t.upper p y.0 q y.1);
  met = elim t.met [
    | inl e ↦ inl e
    | inr (p, c, q, x, e) ↦ (let y = a.among p c q x in inr (p, y.0, q, y.1, e ∙ y.2))
  ];
}

-- of sets with the same elements
pub top-same : {f g : Costs} {old new : ℕ} → ((p c q : ℕ) → f p c q → g p c q) →
    ((p c q : ℕ) → g p c q → f p c q) → IsTop f old new → IsTop g old new
top-same fg gf t = record {
  stays = t.stays;
  upper = λ p c q x. t.upper p c q (gf p c q x);
  met = elim t.met [
    | inl e ↦ inl e
    | inr (p, c, q, x, e) ↦ inr (p, c, q, fg p c q x, e)
  ];
}

-- one index more
pub top-more : {f g : ℕ → Costs} {old mid new : ℕ} (n : ℕ) →
    ((k p c q : ℕ) → k < n → f k p c q → g k p c q) →
    ((k p c q : ℕ) → k < n → g k p c q → f k p c q) → IsTop (Any f n) old mid →
    IsTop (g n) mid new → IsTop (Any g (n + 1)) old new
top-more {f} {g} {old} {mid} {new} n fg gf x y =
    record { stays = omega (arith, x.stays, y.stays); upper = upper; met = met y.met }
  where
    Met : ℕ → Type 0
    Met m =
        (p : ℕ) × (c : ℕ) × (q : ℕ) × Any g (n + 1) p c q × (min m ceiling ≡ min c ceiling)

    upper : (p c q : ℕ) → Any g (n + 1) p c q → min c ceiling ≤ new
    upper p c q (k, lt, h) = go (let z : (k < n) ⊎ (k ≡ n) = grind arith in z)
      where
        go : (k < n) ⊎ (k ≡ n) → min c ceiling ≤ new
        go (inl below) =
            ≤-step (min c ceiling) mid new (x.upper p c q (k, below, gf k p c q below h)) y.stays
        go (inr same) = y.upper p c q (subst (λ k. g k p c q) same h)

    before : new ≡ mid → (mid ≡ old) ⊎ ((p : ℕ) × (c : ℕ) × (q : ℕ) × Any f n p c q
        × (min mid ceiling ≡ min c ceiling)) → (new ≡ old) ⊎ Met new
    before same (inl e) = inl (same ∙ e)
    before same (inr (p, c, q, (k, lt, h), e)) =
        inr (p, c, q, (k, omega arith, fg k p c q lt h), ap (λ m. min m ceiling) same ∙ e)

    met : (new ≡ mid) ⊎ ((p : ℕ) × (c : ℕ) × (q : ℕ) × g n p c q
        × (min new ceiling ≡ min c ceiling)) → (new ≡ old) ⊎ Met new
    met (inl same) = before same x.met
    met (inr (p, c, q, h, e)) = inr (p, c, q, (n, omega arith, h), e)

pub most-none : (t : Tree) (s : Positions) (word_costs into : CostsOn) → IsMostBelow t s
    word_costs into 0 0
most-none t s word_costs into = record {
  at = [];
  count = refl;
  best = λ k lt. absurd (omega arith);
  top = top-none 0 (λ p c q h. absurd (let lt = h.1 in omega arith));
}

-- one word more
pub most-more : (t : Tree) (s : Positions) (word_costs into : CostsOn) (n old new : ℕ)
    (m : Matrix) →
    IsMostBelow t s word_costs into n old → IsBest (entry m) (ReachesAt t s word_costs n) →
    IsTop (EndsBy t s word_costs into n (entry m)) old new → IsMostBelow t s word_costs
    into (n + 1) new
most-more t s word_costs into n old new m b best top = record {
  at = b.at ++ m ∷ [];
  count = length_push b.at m ∙ ap (λ n. n + 1) b.count;
  best = reach-more b.at n m (λ k. ReachesAt t s word_costs k) b.count b.best best;
  top =
      top-more n (λ k p c q lt h. subst (λ a. EndsBy t s word_costs into k a p c q)
      (sym (kept k lt)) h)
      (λ k p c q lt h. subst (λ a. EndsBy t s word_costs into k a p c q) (kept k lt) h) b.top
      (subst (λ a. IsTop (EndsBy t s word_costs into n a) old new) (sym here) top);
}
  where
    kept : (k : ℕ) → k < n → matrix_at (b.at ++ m ∷ []) k ≡ matrix_at b.at k
    kept k lt =
        let few = b.count in ap entry (get_or_append_left b.at (m ∷ []) no_matrix k (omega arith))

    here : matrix_at (b.at ++ m ∷ []) n ≡ entry m
    here =
        ap entry (get_or-append_right b.at (m ∷ []) n n no_matrix b.count (omega arith)
        ∙ ap (λ i. slice_index_or (m ∷ []) i no_matrix) (let z : n - n ≡ 0 = omega arith in z))

-- by word, or by where a path ends
pub ends-either : (t : Tree) (s : Positions) (word_costs into : CostsOn) (at : List Matrix)
    {n old new : ℕ} → IsTop (Any (λ k. EndsBy t s word_costs into k (matrix_at at k)) n) old new →
    IsTop (Either (Any (λ k. EndsAt (into k) (matrix_at at k)) n)
    (Any (ExitCostsAt t s word_costs at) n)) old new
ends-either t s word_costs into at {n} x = top-same there back x
  where
    there : (p c q : ℕ) → Any (λ k. EndsBy t s word_costs into k (matrix_at at k)) n p c q →
        Either (Any (λ k. EndsAt (into k) (matrix_at at k)) n) (Any (ExitCostsAt t s word_costs
        at) n) p c q
    there p c q (k, lt, inl (inl h)) = inl (k, lt, h)
    there p c q (k, lt, inl (inr h)) = inr (k, lt, inl h)
    there p c q (k, lt, inr h) = inr (k, lt, inr h)

    back : (p c q : ℕ) → Either (Any (λ k. EndsAt (into k) (matrix_at at k)) n)
        (Any (ExitCostsAt t s word_costs at) n) p c q →
        Any (λ k. EndsBy t s word_costs into k (matrix_at at k)) n p c q
    back p c q (inl (k, lt, h)) = (k, lt, inl (inl h))
    back p c q (inr (k, lt, inl h)) = (k, lt, inl (inr h))
    back p c q (inr (k, lt, inr h)) = (k, lt, inr h)

-- what leaves along an edge, if it leaves
pub top-when : (f : Costs) (b : Bool) {old new : ℕ} → b ≡ true → IsTop f old new →
    IsTop (When b f) old new
top-when f true e t = t
top-when f false e t = cc

pub top-unless : (f : Costs) (b : Bool) (n : ℕ) → b ≡ false → IsTop (When b f) n n
top-unless f true n e = cc
top-unless f false n e = top-none n (λ p c q h. h)
