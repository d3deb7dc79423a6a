-- The largest of a number and of costs.
use Rattle.std.proofs.Common.{◌≡◌, ℕ, ◌+◌, ◌<◌, ◌≤◌, ◌⊎◌, ◌∙◌, refl, arith, min, subst, sym, ap}
use Rattle.std.proofs.Common.{inl, inr, Some, None, slice_index_or, replicate}
use Rattle.bound_calc.specs.declared.matrix.Matrix.{Matrix}
use Rattle.bound_calc.specs.Best.{Costs, Either, In, IsBest, Then, ceiling}
use Rattle.bound_calc.specs.Hops.{IsLargest}
use Rattle.bound_calc.specs.Matrices.{cell, entry}
use Rattle.bound_calc.specs.Tops.{IsTop}
use Rattle.bound_calc.proofs.AdvanceLaws.{row_of}
use Rattle.bound_calc.proofs.BestLaws.{Within, best-same}
use Rattle.bound_calc.proofs.Entries.{entry-range, entry-in}
use Rattle.bound_calc.proofs.PassLaws.{none-entry}

≤-step : (a b c : ℕ) → a ≤ b → b ≤ c → a ≤ c
≤-step a b c h h' = omega arith

pub top-either : {f g : Costs} {old mid new : ℕ} → IsTop f old mid → IsTop g mid new →
    IsTop (Either f g) old new
top-either {f} {g} {old} {mid} {new} x y =
    record { stays = omega (arith, x.stays, y.stays); upper = upper; met = met y.met }
  where
    Met : ℕ → Type 0
    Met n =
        (p : ℕ) × (c : ℕ) × (q : ℕ) × Either f g p c q × (min n ceiling ≡ min c ceiling)

    upper : (p c q : ℕ) → Either f g p c q → min c ceiling ≤ new
    upper p c q (inl h) = ≤-step (min c ceiling) mid new (x.upper p c q h) y.stays
    upper p c q (inr h) = y.upper p c q h

    before : new ≡ mid →
        (mid ≡ old) ⊎ ((p : ℕ) × (c : ℕ) × (q : ℕ) × f p c q × (min mid ceiling ≡ min c ceiling)) →
        (new ≡ old) ⊎ Met new
    before same (inl e) = inl (same ∙ e)
    before same (inr (p, c, q, h, e)) = inr (p, c, q, inl h, ap (λ n. min n ceiling) same ∙ e)

    met : (new ≡ mid)
        ⊎ ((p : ℕ) × (c : ℕ) × (q : ℕ) × g p c q × (min new ceiling ≡ min c ceiling)) →
        (new ≡ old) ⊎ Met new
    met (inl same) = before same x.met
    met (inr (p, c, q, h, e)) = inr (p, c, q, inr h, e)

-- nothing is larger
pub top-none : {f : Costs} (n : ℕ) → ((p c q : ℕ) → f p c q → ⊥) → IsTop f n n
top-none n none =
    record { stays = omega arith; upper = λ p c q h. absurd (none p c q h); met = inl refl }

-- the largest entry of the best costs of a set
pub top-best : {m : Matrix} {f : Costs} {old new : ℕ} → IsBest (entry m) f →
    IsLargest m old new → IsTop f old new
top-best {m} {f} {old} {new} b l = record {
  stays = l.stays;
  upper =
      λ p c q h. let e = b.0 p c q h in
      ≤-step (min c ceiling) e.0 new e.2 (l.upper p e.0 q e.1);
  met = elim l.met [
    | inl e ↦ inl e
    | inr y ↦ (let z = b.1 y.0 new y.1 y.2 in inr (y.0, z.0, y.1, z.1, z.2))
  ];
}

under : (c n : ℕ) → min c n ≤ c
under c n = omega arith

pub top-in : {m : Matrix} {old new : ℕ} → IsLargest m old new → IsTop (In (entry m)) old new
top-in {m} l = top-best ((λ p c q h. (c, h, under c ceiling)), (λ p e q h. (e, h, refl))) l

-- the same, of a set that was joined onto no sums
pub top-onto : {m : Matrix} {f : Costs} {old new : ℕ} →
    IsBest (entry m) (Either (In (entry (record { best = replicate 8 (replicate 8 None) }))) f) →
    IsLargest m old new → IsTop f old new
top-onto {m} {f} b l = top-best (best-same there (λ p c q h. inr h) b) l
  where
    there : Within (Either (In (entry (record { best = replicate 8 (replicate 8 None) }))) f) f
    there p c q (inl x) = absurd (none-entry p q c x)
    there p c q (inr x) = x

-- the costs of a matrix, and of it with another one after it
abbrev pub Longer : Matrix → Matrix → Costs
Longer here into = Either (In (entry here)) (Then (In (entry here)) (In (entry into)))

-- the largest over the positions between that are below n
pub record IsLongestBelow (here into : Matrix) (n old new : ℕ) : Type 0 where
  pub stays : old ≤ new
  pub inner : (p r x : ℕ) → r < n → p < 8 → cell here p r ≡ Some x → min x ceiling ≤ new
  pub outer : (p r q x y : ℕ) → r < n → p < 8 → q < 8 → cell here p r ≡ Some x →
      cell into r q ≡ Some y → min (x + y) ceiling ≤ new
  pub met : (new ≡ old) ⊎ ((p : ℕ) × (c : ℕ) × (q : ℕ) × Longer here into p c q
      × (min new ceiling ≡ min c ceiling))

pub longest-start : (here into : Matrix) (old : ℕ) → IsLongestBelow here into 0 old old
longest-start here into old = record {
  stays = omega arith;
  inner = λ p r x lt a is. absurd (omega arith);
  outer = λ p r q x y lt a b is at. absurd (omega arith);
  met = inl refl;
}

least : (x top n new : ℕ) → min (x + top) n ≤ new → min x n ≤ new
least x top n new h = omega arith

least-sum : (x y top n new : ℕ) → y ≤ top → min (x + top) n ≤ new → min (x + y) n ≤ new
least-sum x y top n new le h = omega arith

capped : (new x top n : ℕ) → new ≡ min (x + top) n → min new n ≡ min (x + top) n
capped new x top n e = omega arith

capped-alone : (new x top n : ℕ) → top ≡ 0 → new ≡ min (x + top) n → min new n ≡ min x n
capped-alone new x top n none e = omega arith

pub longest-more : (here into : Matrix) (n old mid new top : ℕ) → n < 8 →
    IsLongestBelow here into n old mid →
    ((q d : ℕ) → q < 8 → slice_index_or (row_of into n) q None ≡ Some d → d ≤ top) →
    ((top ≡ 0) ⊎ ((q : ℕ) × (q < 8) × (slice_index_or (row_of into n) q None ≡ Some top))) →
    mid ≤ new →
    ((p x : ℕ) → p < 8 → cell here p n ≡ Some x → min (x + top) ceiling ≤ new) →
    ((new ≡ mid) ⊎ ((p : ℕ) × (x : ℕ) × (p < 8) × (cell here p n ≡ Some x)
    × (new ≡ min (x + top) ceiling))) → IsLongestBelow here into (n + 1) old new
longest-more here into n old mid new top small l row row_met stays upper met = record {
  stays = omega (arith, l.stays);
  inner = λ p r x lt a is. in_row p r x a is (let z : (r < n) ⊎ (r ≡ n) = grind arith in z);
  outer =
      λ p r q x y lt a b is at.
      out_row p r q x y a b is at (let z : (r < n) ⊎ (r ≡ n) = grind arith in z);
  met = found met;
}
  where
    in_row : (p r x : ℕ) → p < 8 → cell here p r ≡ Some x → (r < n) ⊎ (r ≡ n) →
        min x ceiling ≤ new
    in_row p r x a is (inl below) =
        ≤-step (min x ceiling) mid new (l.inner p r x below a is) stays
    in_row p r x a is (inr same) =
        least x top ceiling new (upper p x a (ap (λ k. cell here p k) (sym same) ∙ is))

    out_row : (p r q x y : ℕ) → p < 8 → q < 8 → cell here p r ≡ Some x → cell into r q ≡ Some y →
        (r < n) ⊎ (r ≡ n) → min (x + y) ceiling ≤ new
    out_row p r q x y a b is at (inl below) =
        ≤-step (min (x + y) ceiling) mid new (l.outer p r q x y below a b is at) stays
    out_row p r q x y a b is at (inr same) =
        least-sum x y top ceiling new (row q y b (ap (λ k. cell into k q) (sym same) ∙ at))
        (upper p x a (ap (λ k. cell here p k) (sym same) ∙ is))

    Met : Type 0
    Met =
        (p : ℕ) × (c : ℕ) × (q : ℕ) × Longer here into p c q × (min new ceiling ≡ min c ceiling)

    before : new ≡ mid → (mid ≡ old) ⊎ ((p : ℕ) × (c : ℕ) × (q : ℕ) × Longer here into p c q
        × (min mid ceiling ≡ min c ceiling)) → (new ≡ old) ⊎ Met
    before same (inl e) = inl (same ∙ e)
    before same (inr (p, c, q, h, e)) = inr (p, c, q, h, ap (λ n. min n ceiling) same ∙ e)

    here_met : (p x : ℕ) → p < 8 → cell here p n ≡ Some x → new ≡ min (x + top) ceiling →
        (top ≡ 0) ⊎ ((q : ℕ) × (q < 8) × (slice_index_or (row_of into n) q None ≡ Some top)) → Met
    here_met p x a is e (inl none) =
        (p, x, n, inl (entry-in here p n a small ∙ is), capped-alone new x top ceiling none e)
    here_met p x a is e (inr (q, b, at)) = (
      p,
      x + top,
      q,
      inr (record {
        at = n;
        one = x;
        two = top;
        first = entry-in here p n a small ∙ is;
        second = entry-in into n q small b ∙ at;
        cost = refl;
      }),
      capped new x top ceiling e,
    )

    found : ((new ≡ mid) ⊎ ((p : ℕ) × (x : ℕ) × (p < 8) × (cell here p n ≡ Some x)
        × (new ≡ min (x + top) ceiling))) → (new ≡ old) ⊎ Met
    found (inl same) = before same l.met
    found (inr (p, x, a, is, e)) = inr (here_met p x a is e row_met)

pub longest-all : (here into : Matrix) (n old new : ℕ) → 8 ≤ n → n ≤ 8 →
    IsLongestBelow here into n old new → IsTop (Longer here into) old new
longest-all here into n old new all most l =
    record { stays = l.stays; upper = upper; met = l.met }
  where
    upper : (p c q : ℕ) → Longer here into p c q → min c ceiling ≤ new
    upper p c q (inl e) =
        let r = entry-range here p q c e in
        l.inner p q c (omega (arith, r.1)) r.0 (sym (entry-in here p q r.0 r.1) ∙ e)
    upper p c q (inr t) =
        let r = entry-range here p t.at t.one t.first in
        let k = entry-range into t.at q t.two t.second in
        subst (λ n. min n ceiling ≤ new) (sym t.cost)
        (l.outer p t.at q t.one t.two (omega (arith, r.1)) r.0 k.1
        (sym (entry-in here p t.at r.0 r.1) ∙ t.first)
        (sym (entry-in into t.at q k.0 k.1) ∙ t.second))
