-- From cells to the best of a set.
use Rattle.std.proofs.Common.{◌≡◌, ℕ, zero, suc, add-one, ◌+◌, ◌<◌, ◌≤◌, ◌⊎◌, max, min}
use Rattle.std.proofs.Common.{subst, Option, Some, None, nat_lt, ◌&&◌, if◌then◌else◌}
use Rattle.std.proofs.Common.{refl, inl, inr, ap, sym, ◌∙◌, arith, Bool, true, false}
use Rattle.std.proofs.lemmas.Bool.Decides.{nat_tests}
use Rattle.bound_calc.proofs.BestLaws.{same}
use Rattle.bound_calc.specs.Best.{Among, Covers, Either, In, IsBest, Then, ceiling}
use Rattle.bound_calc.specs.Matrices.{IsJoin, IsProduct, cell, entry, larger_of, over, sum_of}
use Rattle.bound_calc.specs.declared.matrix.Matrix.{Matrix}

-- an entry is a cell in range
pub entry-in : (m : Matrix) (p q : ℕ) → p < 8 → q < 8 → entry m p q ≡ cell m p q
unfolding entry
entry-in m p q a b =
    let x : nat_lt p 8 ≡ true = grind (arith, nat_tests) in
    let y : nat_lt q 8 ≡ true = grind (arith, nat_tests) in rw (x, y) refl

pub entry-range : (m : Matrix) (p q c : ℕ) → entry m p q ≡ Some c → (p < 8) × (q < 8)
unfolding entry
entry-range m p q c e = go (nat_lt p 8) (nat_lt q 8) refl refl e
  where
    go : (a b : Bool) → nat_lt p 8 ≡ a → nat_lt q 8 ≡ b →
        (if a && b then cell m p q else None) ≡ Some c → (p < 8) × (q < 8)
    go true true x y e = (grind (arith, nat_tests), grind (arith, nat_tests))
    go true false x y e = cc
    go false b x y e = cc

-- the larger of two
pub larger-left : (x y : Option ℕ) (c : ℕ) → x ≡ Some c →
    (e : ℕ) × (larger_of x y ≡ Some e) × (c ≤ e)
unfolding larger_of
larger-left None y c h = cc
larger-left (Some x) None c h = (x, refl, (let e : x ≡ c = cc in omega arith))
larger-left (Some x) (Some y) c h = (max x y, refl, (let e : x ≡ c = cc in omega arith))

pub larger-right : (x y : Option ℕ) (c : ℕ) → y ≡ Some c →
    (e : ℕ) × (larger_of x y ≡ Some e) × (c ≤ e)
unfolding larger_of
larger-right None None c h = cc
larger-right None (Some y) c h = (y, refl, (let e : y ≡ c = cc in omega arith))
larger-right (Some x) None c h = cc
larger-right (Some x) (Some y) c h = (max x y, refl, (let e : y ≡ c = cc in omega arith))

pub larger-from : (x y : Option ℕ) (c : ℕ) → larger_of x y ≡ Some c → (x ≡ Some c) ⊎ (y ≡ Some c)
unfolding larger_of
larger-from None y c h = inr h
larger-from (Some x) None c h = inl h
larger-from (Some x) (Some y) c h = go (let z : (max x y ≡ x) ⊎ (max x y ≡ y) = grind arith in z)
  where
    go : (max x y ≡ x) ⊎ (max x y ≡ y) → (Some x ≡ Some c) ⊎ (Some y ≡ Some c)
    go (inl a) = inl (ap Some (sym a) ∙ h)
    go (inr b) = inr (ap Some (sym b) ∙ h)

larger-either : (x y z : Option ℕ) → larger_of (larger_of x y) z ≡ larger_of x (larger_of y z)
unfolding larger_of
larger-either None y z = refl
larger-either (Some x) None z = refl
larger-either (Some x) (Some y) None = refl
larger-either (Some x) (Some y) (Some z) =
    ap Some (let e : max (max x y) z ≡ max x (max y z) = omega arith in e)

pub larger-none : (x : Option ℕ) → larger_of x None ≡ x
unfolding larger_of
larger-none None = refl
larger-none (Some x) = refl

-- no sum, if there is no first one
pub none-sum : (first x y : Option ℕ) → ((n : ℕ) → first ≡ Some n → ⊥) →
    x ≡ larger_of x (sum_of first y)
unfolding sum_of
none-sum None x y none = sym (larger-none x)
none-sum (Some n) x y none = absurd (none n refl)

-- the larger of none and another
pub none-larger : (x y z : Option ℕ) → x ≡ None → z ≡ larger_of x y → z ≡ y
unfolding larger_of
none-larger x y z none e = e ∙ ap (λ o. larger_of o y) none

pub min-under : (c e n : ℕ) → c ≤ e → min c n ≤ e
min-under c e n h = omega arith

-- a second saturation at n changes nothing
pub capped : (e c n : ℕ) → e ≡ min c n → min e n ≡ min c n
capped e c n h = omega arith

pub best-join : (a b m : Matrix) → IsJoin a b m →
    IsBest (entry m) (Either (In (entry a)) (In (entry b)))
best-join a b m cells = (covers, among)
  where
    at : (p q : ℕ) → p < 8 → q < 8 → entry m p q ≡ larger_of (entry a p q) (entry b p q)
    at p q h k = rw (entry-in m p q h k, entry-in a p q h k, entry-in b p q h k) (cells p q h k)

    up : {o : Option ℕ} (c : ℕ) → (e : ℕ) × (o ≡ Some e) × (c ≤ e) →
        (e : ℕ) × (o ≡ Some e) × (min c ceiling ≤ e)
    up c z = (z.0, z.1, min-under c z.0 ceiling z.2)

    covers : Covers (entry m) (Either (In (entry a)) (In (entry b)))
    covers p c q (inl e) =
        let r = entry-range a p q c e in
        rw (at p q r.0 r.1) (up c (larger-left (entry a p q) (entry b p q) c e))
    covers p c q (inr e) =
        let r = entry-range b p q c e in
        rw (at p q r.0 r.1) (up c (larger-right (entry a p q) (entry b p q) c e))

    among : Among (entry m) (Either (In (entry a)) (In (entry b)))
    among p c q e =
        let r = entry-range m p q c e in
        (c, larger-from (entry a p q) (entry b p q) c (sym (at p q r.0 r.1) ∙ e), refl)

-- the largest sum over the positions between
sum-from : (x y : Option ℕ) (c : ℕ) → sum_of x y ≡ Some c →
    (a : ℕ) × (b : ℕ) × (x ≡ Some a) × (y ≡ Some b) × (c ≡ min (a + b) ceiling)
unfolding sum_of
sum-from None y c h = cc
sum-from (Some x) None c h = cc
sum-from (Some x) (Some y) c h = (x, y, refl, refl, (let e : min (x + y) ceiling ≡ c = cc in sym e))

sum-is : (x y : Option ℕ) (a b : ℕ) → x ≡ Some a → y ≡ Some b →
    sum_of x y ≡ Some (min (a + b) ceiling)
unfolding sum_of
sum-is None y a b h k = cc
sum-is (Some x) None a b h k = cc
sum-is (Some x) (Some y) a b h k =
    (let e : x ≡ a = cc in
    let f : y ≡ b = cc in ap (λ n. Some (min n ceiling)) (ap (λ n. n + y) e ∙ ap (λ n. a + n) f))

-- the sum over no position
pub over-none : (f g : ℕ → Option ℕ) (x : Option ℕ) → x ≡ larger_of x (over 0 f g)
unfolding over
over-none f g x = sym (larger-none x)

-- the sum over one more position
pub over-more : (n : ℕ) (f g : ℕ → Option ℕ) (first old new : Option ℕ) →
    old ≡ larger_of first (over n f g) → new ≡ larger_of old (sum_of (f n) (g n)) →
    new ≡ larger_of first (over (n + 1) f g)
unfolding over
over-more n f g first old new before last =
    rw add-one ((last ∙ ap (λ o. larger_of o (sum_of (f n) (g n))) before)
    ∙ larger-either first (over n f g) (sum_of (f n) (g n)))

over-covers : (n : ℕ) (f g : ℕ → Option ℕ) (r c : ℕ) → r < n → sum_of (f r) (g r) ≡ Some c →
    (e : ℕ) × (over n f g ≡ Some e) × (c ≤ e)
unfolding over
over-covers zero f g r c h e = absurd (omega arith)
over-covers (suc n) f g r c h e =
    go (over-covers n f g r c) (let x : (r ≡ n) ⊎ (r < n) = grind arith in x)
  where
    go : (r < n → sum_of (f r) (g r) ≡ Some c → (e : ℕ) × (over n f g ≡ Some e) × (c ≤ e)) →
        (r ≡ n) ⊎ (r < n) →
        (e : ℕ) × (larger_of (over n f g) (sum_of (f n) (g n)) ≡ Some e) × (c ≤ e)
    go before (inl same) =
        larger-right (over n f g) (sum_of (f n) (g n)) c
        (ap (λ k. sum_of (f k) (g k)) (sym same) ∙ e)
    go before (inr below) =
        let x = before below e in
        let y = larger-left (over n f g) (sum_of (f n) (g n)) x.0 x.1 in
        (y.0, y.1, omega (arith, x.2, y.2))

over-among : (n : ℕ) (f g : ℕ → Option ℕ) (c : ℕ) → over n f g ≡ Some c →
    (r : ℕ) × (r < n) × (sum_of (f r) (g r) ≡ Some c)
unfolding over
over-among zero f g c e = cc
over-among (suc n) f g c e =
    go (over-among n f g c) (larger-from (over n f g) (sum_of (f n) (g n)) c e)
  where
    go : (over n f g ≡ Some c → (r : ℕ) × (r < n) × (sum_of (f r) (g r) ≡ Some c)) →
        (over n f g ≡ Some c) ⊎ (sum_of (f n) (g n) ≡ Some c) →
        (r : ℕ) × (r < suc n) × (sum_of (f r) (g r) ≡ Some c)
    go before (inl x) = let y = before x in (y.0, omega (arith, y.1), y.2)
    go before (inr x) = (n, omega arith, x)

pub best-chain : (a b m : Matrix) → IsProduct a b m →
    IsBest (entry m) (Then (In (entry a)) (In (entry b)))
best-chain a b m cells = (covers, among)
  where
    covers : Covers (entry m) (Then (In (entry a)) (In (entry b)))
    covers p c q t =
        let r = entry-range a p t.at t.one t.first in
        let k = entry-range b t.at q t.two t.second in
        let x = sum-is (cell a p t.at) (cell b t.at q) t.one t.two
        (sym (entry-in a p t.at r.0 r.1) ∙ t.first) (sym (entry-in b t.at q k.0 k.1) ∙ t.second) in
        let y = over-covers 8 (λ r. cell a p r) (λ r. cell b r q) t.at
        (min (t.one + t.two) ceiling) r.1 x in (
          y.0,
          (entry-in m p q r.0 k.1 ∙ cells p q r.0 k.1) ∙ y.1,
          subst (λ n. min n ceiling ≤ y.0) (sym t.cost) y.2,
        )

    among : Among (entry m) (Then (In (entry a)) (In (entry b)))
    among p c q e =
        let r = entry-range m p q c e in
        let y = over-among 8 (λ r. cell a p r) (λ r. cell b r q) c
        (sym (entry-in m p q r.0 r.1 ∙ cells p q r.0 r.1) ∙ e) in
        let z = sum-from (cell a p y.0) (cell b y.0 q) c y.2 in (
          z.0 + z.1,
          record {
            at = y.0;
            one = z.0;
            two = z.1;
            first = entry-in a p y.0 r.0 y.1 ∙ z.2;
            second = entry-in b y.0 q y.1 r.1 ∙ z.3;
            cost = refl;
          },
          capped c (z.0 + z.1) ceiling z.4,
        )

≤-step : (a b c : ℕ) → a ≤ b → b ≤ c → a ≤ c
≤-step a b c h k = omega arith

-- the larger of an entry and of the largest sum over the positions between
pub best-join-chain : (a b old new : Matrix) → ((p q : ℕ) → p < 8 → q < 8 →
    cell new p q ≡ larger_of (cell old p q) (over 8 (λ r. cell a p r) (λ r. cell b r q))) →
    IsBest (entry new) (Either (In (entry old)) (Then (In (entry a)) (In (entry b))))
best-join-chain a b old new cells = (covers, among)
  where
    sums : ℕ → ℕ → Option ℕ
    sums p q = over 8 (λ r. cell a p r) (λ r. cell b r q)

    at : (p q : ℕ) → p < 8 → q < 8 → entry new p q ≡ larger_of (cell old p q) (sums p q)
    at p q h k = entry-in new p q h k ∙ cells p q h k

    covers : Covers (entry new) (Either (In (entry old)) (Then (In (entry a)) (In (entry b))))
    covers p c q (inl e) =
        let r = entry-range old p q c e in
        let l = larger-left (cell old p q) (sums p q) c (sym (entry-in old p q r.0 r.1) ∙ e) in
        (l.0, at p q r.0 r.1 ∙ l.1, min-under c l.0 ceiling l.2)
    covers p c q (inr t) =
        let r = entry-range a p t.at t.one t.first in
        let k = entry-range b t.at q t.two t.second in
        let x = sum-is (cell a p t.at) (cell b t.at q) t.one t.two
        (sym (entry-in a p t.at r.0 r.1) ∙ t.first) (sym (entry-in b t.at q k.0 k.1) ∙ t.second) in
        let y = over-covers 8 (λ r. cell a p r)
        (λ r. cell b r q) t.at (min (t.one + t.two) ceiling) r.1 x in
        let l = larger-right (cell old p q) (sums p q) y.0 y.1 in (
          l.0,
          at p q r.0 k.1 ∙ l.1,
          subst (λ n. min n ceiling ≤ l.0) (sym t.cost)
              (≤-step (min (t.one + t.two) ceiling) y.0 l.0 y.2 l.2),
        )

    among : Among (entry new) (Either (In (entry old)) (Then (In (entry a)) (In (entry b))))
    among p c q e = go (larger-from (cell old p q) (sums p q) c (sym (at p q r.0 r.1) ∙ e))
      where
        r : (p < 8) × (q < 8)
        r = entry-range new p q c e

        go : (cell old p q ≡ Some c) ⊎ (sums p q ≡ Some c) →
            (n : ℕ) × Either (In (entry old)) (Then (In (entry a)) (In (entry b))) p n q
            × (min c ceiling ≡ min n ceiling)
        go (inl o) = (c, inl (entry-in old p q r.0 r.1 ∙ o), refl)
        go (inr o) =
            let y = over-among 8 (λ r. cell a p r) (λ r. cell b r q) c o in
            let z = sum-from (cell a p y.0) (cell b y.0 q) c y.2 in (
              z.0 + z.1,
              inr (record {
                at = y.0;
                one = z.0;
                two = z.1;
                first = entry-in a p y.0 r.0 y.1 ∙ z.2;
                second = entry-in b y.0 q y.1 r.1 ∙ z.3;
                cost = refl;
              }),
              capped c (z.0 + z.1) ceiling z.4,
            )
