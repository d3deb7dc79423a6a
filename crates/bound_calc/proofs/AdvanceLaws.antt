-- Rows and matrices advanced by a step.
use Rattle.std.proofs.Common.{◌≡◌, ◌≢◌, ℕ, ◌+◌, ◌<◌, ◌≤◌, ◌⊎◌, refl, arith, min, subst, sym, ap}
use Rattle.std.proofs.Common.{◌∙◌, inl, inr, List, [], length, Option, Some, None, slice_index_or}
use Rattle.std.proofs.Common.{slice_set, get_or-set_other, get_or-set_same, length-set}
use Rattle.bound_calc.specs.declared.matrix.Matrix.{Matrix}
use Rattle.bound_calc.specs.declared.hop.Hop.{Hop}
use Rattle.bound_calc.specs.Best.{Covers, Among, IsBest, Either, Then, In, ceiling}
use Rattle.bound_calc.specs.Hops.{Hops, IsAdvanced, IsFarthest, IsLargest, IsLeft, raised}
use Rattle.bound_calc.specs.Matrices.{cell, entry, larger_of}
use Rattle.bound_calc.proofs.Embed.{is_or_not}
use Rattle.bound_calc.proofs.Entries.{capped, min-under, entry-range, entry-in}
use Rattle.bound_calc.proofs.Entries.{larger-left, larger-right, larger-from}

≤-step : (a b c : ℕ) → a ≤ b → b ≤ c → a ≤ c
≤-step a b c h h' = omega arith

pub join_advanced-start : (row : List (Option ℕ)) (hops : List (Option Hop)) (old : List (Option ℕ))
    →
    IsAdvanced row hops 0 old old
join_advanced-start row hops old = record {
  count = refl;
  kept = λ q c e. (c, e, omega arith);
  there = λ r x d q lt a h. absurd (omega arith);
  from = λ q e is. inl is;
}

-- no sum to add
join_advanced-same : (row : List (Option ℕ)) (hops : List (Option Hop))
    (n : ℕ) (old mid : List (Option ℕ)) →
    ((x d q : ℕ) → slice_index_or row n None ≡ Some x → Hops hops n d q → ⊥) →
    IsAdvanced row hops n old mid → IsAdvanced row hops (n + 1) old mid
join_advanced-same row hops n old mid none a = record {
  count = a.count;
  kept = a.kept;
  there = λ r x d q lt is h. there r x d q is h (let z : (r < n) ⊎ (r ≡ n) = grind arith in z);
  from = λ q e is. elim (a.from q e is) [
    | inl o ↦ inl o
    | inr y ↦ inr (y.0, y.1, y.2, omega (arith, y.3), y.4, y.5, y.6)
  ];
}
  where
    there : (r x d q : ℕ) → slice_index_or row r None ≡ Some x →
        Hops hops r d q → (r < n) ⊎ (r ≡ n) →
        (e : ℕ) × (slice_index_or mid q None ≡ Some e) × (min (x + d) ceiling ≤ e)
    there r x d q is h (inl below) = a.there r x d q below is h
    there r x d q is h (inr same) =
        absurd (none x d q (ap (λ k. slice_index_or row k None) (sym same) ∙ is)
        (ap (λ k. slice_index_or hops k None) (sym same) ∙ h))

-- one sum added
join_advanced-one : (row : List (Option ℕ)) (hops : List (Option Hop)) (n x : ℕ)
    (h : Hop) (old mid : List (Option ℕ)) → slice_index_or row n None ≡ Some x →
    slice_index_or hops n None ≡ Some h → h.position < length mid → IsAdvanced row hops n old mid →
    IsAdvanced row hops (n + 1) old (slice_set mid h.position
    (larger_of (slice_index_or mid h.position None) (Some (min (x + h.cost) ceiling))))
join_advanced-one row hops n x h old mid is hop position a = record {
  count =
      length-set mid h.position
      (larger_of (slice_index_or mid h.position None) (Some (min (x + h.cost) ceiling))) ∙ a.count;
  kept = λ q c o. let m = a.kept q c o in more q c m.0 m.2 m.1 (is_or_not q h.position);
  there =
      λ r y d q lt z hops_q. there r y d q z hops_q (let w : (r < n) ⊎ (r ≡ n) = grind arith in w);
  from = λ q e z. from q e z (is_or_not q h.position);
}
  where
    new : List (Option ℕ)
    new =
        slice_set mid h.position
        (larger_of (slice_index_or mid h.position None) (Some (min (x + h.cost) ceiling)))

    at : slice_index_or new h.position None
        ≡ larger_of (slice_index_or mid h.position None) (Some (min (x + h.cost) ceiling))
    at =
        get_or-set_same mid h.position (larger_of (slice_index_or mid h.position None)
        (Some (min (x + h.cost) ceiling))) None position

    more : (q c m : ℕ) → c ≤ m → slice_index_or mid q None ≡ Some m →
        (q ≡ h.position) ⊎ (q ≢ h.position) →
        (e : ℕ) × (slice_index_or new q None ≡ Some e) × (c ≤ e)
    more q c m le is_mid (inl same) =
        let l = larger-left (slice_index_or mid h.position None) (Some (min (x + h.cost) ceiling)) m
        (ap (λ k. slice_index_or mid k None) (sym same) ∙ is_mid) in
        (l.0, (ap (λ k. slice_index_or new k None) same ∙ at) ∙ l.1, omega (arith, l.2))
    more q c m le is_mid (inr other) = (
      m,
      get_or-set_other mid h.position q (larger_of (slice_index_or mid h.position None)
          (Some (min (x + h.cost) ceiling))) None other ∙ is_mid,
      le,
    )

    there : (r y d q : ℕ) → slice_index_or row r None ≡ Some y →
        Hops hops r d q → (r < n) ⊎ (r ≡ n) →
        (e : ℕ) × (slice_index_or new q None ≡ Some e) × (min (y + d) ceiling ≤ e)
    there r y d q z hops_q (inl below) =
        let m = a.there r y d q below z hops_q in
        more q (min (y + d) ceiling) m.0 m.2 m.1 (is_or_not q h.position)
    there r y d q z hops_q (inr same) =
        let sums : Some x ≡ Some y =
        sym is ∙ (ap (λ k. slice_index_or row k None) (sym same) ∙ z) in
        let sum : x ≡ y = cc in
        let steps : Some h ≡ Some (record { cost = d; position = q }) =
        sym hop ∙ (ap (λ k. slice_index_or hops k None) (sym same) ∙ hops_q) in
        let step : h ≡ record { cost = d; position = q } = cc in
        let cost : h.cost ≡ d = ap (λ (k : Hop). k.cost) step in
        let to : h.position ≡ q = ap (λ (k : Hop). k.position) step in
        let l = larger-right (slice_index_or mid h.position None) (Some (min (x + h.cost) ceiling))
        (min (x + h.cost) ceiling) refl in (
          l.0,
          (ap (λ k. slice_index_or new k None) (sym to) ∙ at) ∙ l.1,
          subst (λ n. min n ceiling ≤ l.0)
              (let both : x + h.cost ≡ y + d = omega arith in both) l.2,
        )

    from : (q e : ℕ) → slice_index_or new q None ≡ Some e → (q ≡ h.position) ⊎ (q ≢ h.position) →
        (slice_index_or old q None ≡ Some e) ⊎ ((r : ℕ) × (x : ℕ) × (d : ℕ) × (r < n + 1)
        × (slice_index_or row r None ≡ Some x) × Hops hops r d q × (e ≡ min (x + d) ceiling))
    from q e z (inl same) =
        came (larger-from (slice_index_or mid h.position None) (Some (min (x + h.cost) ceiling)) e
        (sym at ∙ (ap (λ k. slice_index_or new k None) (sym same) ∙ z)))
      where
        came : (slice_index_or mid h.position None ≡ Some e)
            ⊎ (Some (min (x + h.cost) ceiling) ≡ Some e) →
            (slice_index_or old q None ≡ Some e) ⊎ ((r : ℕ) × (x : ℕ) × (d : ℕ) × (r < n + 1)
            × (slice_index_or row r None ≡ Some x) × Hops hops r d q × (e ≡ min (x + d) ceiling))
        came (inl m) = elim (a.from q e (ap (λ k. slice_index_or mid k None) same ∙ m)) [
          | inl o ↦ inl o
          | inr y ↦ inr (y.0, y.1, y.2, omega (arith, y.3), y.4, y.5, y.6)
        ]
        came (inr s) = inr (
          n,
          x,
          h.cost,
          omega arith,
          is,
          hop ∙ (λ i. Some (record { cost = h.cost; position = sym same i })),
          (let k : min (x + h.cost) ceiling ≡ e = cc in sym k),
        )
    from q e z (inr other) =
        elim (a.from q e (sym (get_or-set_other mid h.position q (larger_of
        (slice_index_or mid h.position None) (Some (min (x + h.cost) ceiling))) None other) ∙ z)) [
          | inl o ↦ inl o
          | inr y ↦ inr (y.0, y.1, y.2, omega (arith, y.3), y.4, y.5, y.6)
        ]

pub join_advanced-more : (row : List (Option ℕ)) (hops : List (Option Hop)) (n : ℕ)
    (old mid : List (Option ℕ)) → ((p d q : ℕ) → Hops hops p d q → q < 8) →
    ((h : Hop) → slice_index_or hops n None ≡ Some h → length mid ≡ 8) →
    IsAdvanced row hops n old mid → IsAdvanced row hops (n + 1) old
    (raised (slice_index_or row n None) (slice_index_or hops n None) mid)
join_advanced-more row hops n old mid positions long a =
    go (slice_index_or row n None) (slice_index_or hops n None) refl refl
  where
    go : (sum : Option ℕ) (hop : Option Hop) → slice_index_or row n None ≡ sum →
        slice_index_or hops n None ≡ hop → IsAdvanced row hops (n + 1) old (raised sum hop mid)
    go None hop is at =
        join_advanced-same row hops n old mid (λ x d q z h. let k : None ≡ Some x = sym is
        ∙ z in cc) a
    go (Some x) None is at =
        join_advanced-same row hops n old mid
        (λ y d q z h. let k : None ≡ Some (record { cost = d; position = q }) = sym at ∙ h in cc) a
    go (Some x) (Some h) is at =
        join_advanced-one row hops n x h old mid is at
        (let p = positions n h.cost h.position at in let count = long h at in omega arith) a

-- the row of a matrix
abbrev pub row_of : Matrix → ℕ → List (Option ℕ)
row_of m p = slice_index_or m.best p []

pub best-advanced : (here onto new : Matrix) (hops : List (Option Hop)) →
    ((p d q : ℕ) → Hops hops p d q → (p < 8) × (q < 8)) →
    ((p : ℕ) → p < 8 → IsAdvanced (row_of here p) hops 8 (row_of onto p) (row_of new p)) →
    IsBest (entry new) (Either (In (entry onto)) (Then (In (entry here)) (Hops hops)))
best-advanced here onto new hops positions rows = (covers, among)
  where
    covers : Covers (entry new) (Either (In (entry onto)) (Then (In (entry here)) (Hops hops)))
    covers p c q (inl e) =
        let r = entry-range onto p q c e in
        let k = (rows p r.0).kept q c (sym (entry-in onto p q r.0 r.1) ∙ e) in
        (k.0, entry-in new p q r.0 r.1 ∙ k.1, (let le = k.2 in min-under c k.0 ceiling le))
    covers p c q (inr t) =
        let r = entry-range here p t.at t.one t.first in
        let lt : q < 8 = (positions t.at t.two q t.second).1 in
        let k = (rows p r.0).there t.at t.one t.two q r.1
        (sym (entry-in here p t.at r.0 r.1) ∙ t.first) t.second in
        (k.0, entry-in new p q r.0 lt ∙ k.1, subst (λ n. min n ceiling ≤ k.0) (sym t.cost) k.2)

    among : Among (entry new) (Either (In (entry onto)) (Then (In (entry here)) (Hops hops)))
    among p c q e =
        let r = entry-range new p q c e in
        elim ((rows p r.0).from q c (sym (entry-in new p q r.0 r.1) ∙ e)) [
          | inl o ↦ (c, inl (entry-in onto p q r.0 r.1 ∙ o), refl)
          | inr y ↦ (
            y.1 + y.2,
            inr (record {
              at = y.0;
              one = y.1;
              two = y.2;
              first = entry-in here p y.0 r.0 y.3 ∙ y.4;
              second = y.5;
              cost = refl;
            }),
            capped c (y.1 + y.2) ceiling y.6,
          )
        ]

-- the largest with one more sum
pub farthest-more : (row : List (Option ℕ)) (hops : List (Option Hop)) (n old mid new : ℕ) →
    IsFarthest row hops n old mid → mid ≤ new →
    ((x : ℕ) (h : Hop) → slice_index_or row n None ≡ Some x →
    slice_index_or hops n None ≡ Some h → min (x + h.cost) ceiling ≤ new) →
    ((new ≡ mid) ⊎ ((x : ℕ) × (h : Hop) × (slice_index_or row n None ≡ Some x)
    × (slice_index_or hops n None ≡ Some h) × (new ≡ min (x + h.cost) ceiling))) →
    IsFarthest row hops (n + 1) old new
farthest-more row hops n old mid new f stays upper met = record {
  stays = omega (arith, f.stays);
  upper = λ r x d q lt is h. up r x d q is h (let z : (r < n) ⊎ (r ≡ n) = grind arith in z);
  met = found met;
}
  where
    up : (r x d q : ℕ) → slice_index_or row r None ≡ Some x → Hops hops r d q → (r < n) ⊎ (r ≡ n) →
        min (x + d) ceiling ≤ new
    up r x d q is h (inl below) =
        ≤-step (min (x + d) ceiling) mid new (f.upper r x d q below is h) stays
    up r x d q is h (inr same) =
        upper x (record { cost = d; position = q }) (ap (λ k. slice_index_or row k None) (sym same)
        ∙ is) (ap (λ k. slice_index_or hops k None) (sym same) ∙ h)

    Met : ℕ → Type 0
    Met c =
        (r : ℕ) × (x : ℕ) × (d : ℕ) × (q : ℕ) × (r < n + 1) × (slice_index_or row r None ≡ Some x)
        × Hops hops r d q × (c ≡ min (x + d) ceiling)

    found : ((new ≡ mid) ⊎ ((x : ℕ) × (h : Hop) × (slice_index_or row n None ≡ Some x)
        × (slice_index_or hops n None ≡ Some h) × (new ≡ min (x + h.cost) ceiling))) →
        (new ≡ old) ⊎ Met new
    found (inl same) = elim f.met [
      | inl e ↦ inl (same ∙ e)
      | inr y ↦ inr (y.0, y.1, y.2, y.3, omega (arith, y.4), y.5, y.6, same ∙ y.7)
    ]
    found (inr (x, h, is, at, e)) = inr (n, x, h.cost, h.position, omega arith, is, at, e)

-- over the rows below n
pub record IsLeftBelow (here : Matrix) (hops : List (Option Hop)) (n old new : ℕ) : Type 0 where
  pub stays : old ≤ new
  pub upper : (p r x d q : ℕ) → p < n → r < 8 → cell here p r ≡ Some x → Hops hops r d q →
      min (x + d) ceiling ≤ new
  pub met : (new ≡ old) ⊎ ((p : ℕ) × (r : ℕ) × (x : ℕ) × (d : ℕ) × (q : ℕ) × (p < n) × (r < 8)
      × (cell here p r ≡ Some x) × Hops hops r d q × (new ≡ min (x + d) ceiling))

pub left-start : (here : Matrix) (hops : List (Option Hop)) (old : ℕ) →
    IsLeftBelow here hops 0 old old
left-start here hops old = record {
  stays = omega arith;
  upper = λ p r x d q lt a is h. absurd (omega arith);
  met = inl refl;
}

pub left-more : (here : Matrix) (hops : List (Option Hop)) (n old mid new : ℕ) →
    IsLeftBelow here hops n old mid → IsFarthest (row_of here n) hops 8 mid new →
    IsLeftBelow here hops (n + 1) old new
left-more here hops n old mid new l f = record {
  stays = omega (arith, l.stays, f.stays);
  upper = λ p r x d q lt a is h. up p r x d q a is h (let z : (p < n) ⊎ (p ≡ n) = grind arith in z);
  met = elim f.met [
    | inl same ↦ elim l.met [
      | inl e ↦ inl (same ∙ e)
      | inr y ↦ inr (y.0, y.1, y.2, y.3, y.4, omega (arith, y.5), y.6, y.7, y.8, same ∙ y.9)
    ]
    | inr y ↦ inr (n, y.0, y.1, y.2, y.3, omega arith, y.4, y.5, y.6, y.7)
  ];
}
  where
    up : (p r x d q : ℕ) → r < 8 → cell here p r ≡ Some x → Hops hops r d q → (p < n) ⊎ (p ≡ n) →
        min (x + d) ceiling ≤ new
    up p r x d q a is h (inl below) =
        ≤-step (min (x + d) ceiling) mid new (l.upper p r x d q below a is h) f.stays
    up p r x d q a is h (inr same) = f.upper r x d q a (ap (λ k. cell here k r) (sym same) ∙ is) h

pub left-all : (here : Matrix) (hops : List (Option Hop)) (n old new : ℕ) → 8 ≤ n →
    IsLeftBelow here hops n old new → n ≤ 8 → IsLeft here hops old new
left-all here hops n old new all l most = record {
  stays = l.stays;
  upper =
      λ p c q t. let r = entry-range here p t.at t.one t.first in
      subst (λ n. min n ceiling ≤ new) (sym t.cost) (l.upper p t.at t.one t.two q
      (omega (arith, r.0)) r.1 (sym (entry-in here p t.at r.0 r.1) ∙ t.first) t.second);
  met = elim l.met [
    | inl e ↦ inl e
    | inr y ↦ inr (
      y.0,
      y.2 + y.3,
      y.4,
      record {
        at = y.1;
        one = y.2;
        two = y.3;
        first = entry-in here y.0 y.1 (omega (arith, y.5)) y.6 ∙ y.7;
        second = y.8;
        cost = refl;
      },
      y.9,
    )
  ];
}

-- the largest entry of the rows below n
pub record IsLargestBelow (here : Matrix) (n old new : ℕ) : Type 0 where
  pub stays : old ≤ new
  pub upper : (p q c : ℕ) → p < n → q < 8 → cell here p q ≡ Some c → c ≤ new
  pub met : (new ≡ old) ⊎ ((p : ℕ) × (q : ℕ) × (p < n) × (q < 8) × (cell here p q ≡ Some new))

pub largest-start : (here : Matrix) (old : ℕ) → IsLargestBelow here 0 old old
largest-start here old =
    record { stays = omega arith; upper = λ p q c lt a is. absurd (omega arith); met = inl refl }

pub largest-more : (here : Matrix) (n old mid new : ℕ) → IsLargestBelow here n old mid →
    mid ≤ new → ((q c : ℕ) → q < 8 → cell here n q ≡ Some c → c ≤ new) →
    ((new ≡ mid) ⊎ ((q : ℕ) × (q < 8) × (cell here n q ≡ Some new))) →
    IsLargestBelow here (n + 1) old new
largest-more here n old mid new l stays upper met = record {
  stays = omega (arith, l.stays);
  upper = λ p q c lt a is. up p q c a is (let z : (p < n) ⊎ (p ≡ n) = grind arith in z);
  met = elim met [
    | inl same ↦ elim l.met [
      | inl e ↦ inl (same ∙ e)
      | inr y ↦ inr (y.0, y.1, omega (arith, y.2), y.3, y.4 ∙ ap Some (sym same))
    ]
    | inr y ↦ inr (n, y.0, omega arith, y.1, y.2)
  ];
}
  where
    up : (p q c : ℕ) → q < 8 → cell here p q ≡ Some c → (p < n) ⊎ (p ≡ n) → c ≤ new
    up p q c a is (inl below) = omega (arith, l.upper p q c below a is)
    up p q c a is (inr same) = upper q c a (ap (λ k. cell here k q) (sym same) ∙ is)

pub largest-all : (here : Matrix) (n old new : ℕ) → 8 ≤ n → n ≤ 8 → IsLargestBelow here n old new →
    IsLargest here old new
largest-all here n old new all most l = record {
  stays = l.stays;
  upper =
      λ p c q e. let r = entry-range here p q c e in
      l.upper p q c (omega (arith, r.0)) r.1 (sym (entry-in here p q r.0 r.1) ∙ e);
  met = elim l.met [
    | inl e ↦ inl e
    | inr y ↦ inr (y.0, y.1, entry-in here y.0 y.1 (omega (arith, y.2)) y.3 ∙ y.4)
  ];
}
