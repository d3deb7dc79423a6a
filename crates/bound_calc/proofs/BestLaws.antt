-- Matrices of largest costs: one after the other, either, and powers.
use Rattle.std.proofs.Common.{◌≡◌, ℕ, zero, suc, ◌+◌, ◌≤◌, ◌∙◌, min}
use Rattle.std.proofs.Common.{refl, arith, inl, inr, subst, Some}
use Rattle.bound_calc.specs.Best.{AreBest, Costs, Covers, Either, Entries}
use Rattle.bound_calc.specs.Best.{In, IsBest, Power, Stays, Then, ceiling}

-- sets that have the same elements
abbrev pub Within : Costs → Costs → Type 0
Within f g = (p c q : ℕ) → f p c q → g p c q

pub best-same : {m : Entries} {f g : Costs} → Within f g → Within g f → IsBest m f → IsBest m g
best-same fg gf b = (
  (λ p c q x. b.0 p c q (gf p c q x)),
  (λ p e q is. let z = b.1 p e q is in (z.0, fg p z.0 q z.1, z.2)),
)

-- sums that are exact up to n
sum-covers : (a b c one two e n : ℕ) → min a n ≤ one → min b n ≤ two → c ≡ a + b →
    min (one + two) n ≤ e → min c n ≤ e
sum-covers a b c one two e n h1 h2 is h = omega arith

sum-among : (a b c one two e n : ℕ) → min one n ≡ min a n → min two n ≡ min b n → c ≡ one + two →
    min e n ≡ min c n → min e n ≡ min (a + b) n
sum-among a b c one two e n h1 h2 is h = omega arith

once-covers : (c e s n : ℕ) → min c n ≤ e → min e n ≤ s → min c n ≤ s
once-covers c e s n h h' = omega arith

pub best-then : {a b c : Entries} {f g : Costs} → IsBest a f → IsBest b g →
    IsBest c (Then (In a) (In b)) → IsBest c (Then f g)
best-then {a} {b} {c} {f} {g} x y z =
    (covers, λ p e q is. let t = z.1 p e q is in among p e q t.0 t.1 t.2)
  where
    covers : Covers c (Then f g)
    covers p n q t =
        let one = x.0 p t.one t.at t.first in
        let two = y.0 t.at t.two q t.second in
        let sum = z.0 p (one.0 + two.0) q (record {
          at = t.at;
          one = one.0;
          two = two.0;
          first = one.1;
          second = two.1;
          cost = refl;
        }) in
        (sum.0, sum.1, sum-covers t.one t.two n one.0 two.0 sum.0 ceiling one.2 two.2 t.cost sum.2)

    among : (p e q d : ℕ) → Then (In a) (In b) p d q → min e ceiling ≡ min d ceiling →
        (n : ℕ) × Then f g p n q × (min e ceiling ≡ min n ceiling)
    among p e q d t is =
        let one = x.1 p t.one t.at t.first in
        let two = y.1 t.at t.two q t.second in (
          one.0 + two.0,
          record {
            at = t.at;
            one = one.0;
            two = two.0;
            first = one.1;
            second = two.1;
            cost = refl;
          },
          sum-among one.0 two.0 d t.one t.two e ceiling one.2 two.2 t.cost is,
        )

pub best-either : {a b c : Entries} {f g : Costs} → IsBest a f → IsBest b g →
    IsBest c (Either (In a) (In b)) → IsBest c (Either f g)
best-either {a} {b} {c} {f} {g} x y z =
    (covers, λ p e q is. let t = z.1 p e q is in among p e q t.0 t.1 t.2)
  where
    over : (p n q : ℕ) (e : ℕ) → min n ceiling ≤ e →
        (s : ℕ) × (c p q ≡ Some s) × (min e ceiling ≤ s) →
        (s : ℕ) × (c p q ≡ Some s) × (min n ceiling ≤ s)
    over p n q e h s = (s.0, s.1, once-covers n e s.0 ceiling h s.2)

    covers : Covers c (Either f g)
    covers p n q (inl t) =
        let one = x.0 p n q t in over p n q one.0 one.2 (z.0 p one.0 q (inl one.1))
    covers p n q (inr t) =
        let two = y.0 p n q t in over p n q two.0 two.2 (z.0 p two.0 q (inr two.1))

    among : (p e q d : ℕ) → Either (In a) (In b) p d q → min e ceiling ≡ min d ceiling →
        (n : ℕ) × Either f g p n q × (min e ceiling ≡ min n ceiling)
    among p e q d (inl t) is = let one = x.1 p d q t in (one.0, inl one.1, is ∙ one.2)
    among p e q d (inr t) is = let two = y.1 p d q t in (two.0, inr two.1, is ∙ two.2)

-- the larger of one matrix, and of another with something after it
pub best-either-then : {a h c : Entries} {f g k : Costs} → IsBest a f → IsBest h g →
    IsBest c (Either (In a) (Then (In h) k)) → IsBest c (Either f (Then g k))
best-either-then {a} {h} {c} {f} {g} {k} x y z =
    (covers, λ p e q is. let t = z.1 p e q is in among p e q t.0 t.1 t.2)
  where
    covers : Covers c (Either f (Then g k))
    covers p n q (inl t) =
        let one = x.0 p n q t in
        let s = z.0 p one.0 q (inl one.1) in (s.0, s.1, once-covers n one.0 s.0 ceiling one.2 s.2)
    covers p n q (inr t) =
        let one = y.0 p t.one t.at t.first in
        let s = z.0 p (one.0 + t.two) q (inr (record {
          at = t.at;
          one = one.0;
          two = t.two;
          first = one.1;
          second = t.second;
          cost = refl;
        })) in
        (s.0, s.1, sum-covers t.one t.two n one.0 t.two s.0 ceiling one.2 (omega arith) t.cost s.2)

    among : (p e q d : ℕ) → Either (In a) (Then (In h) k) p d q → min e ceiling ≡ min d ceiling →
        (n : ℕ) × Either f (Then g k) p n q × (min e ceiling ≡ min n ceiling)
    among p e q d (inl t) is = let one = x.1 p d q t in (one.0, inl one.1, is ∙ one.2)
    among p e q d (inr t) is =
        let one = y.1 p t.one t.at t.first in (
          one.0 + t.two,
          inr (record {
            at = t.at;
            one = one.0;
            two = t.two;
            first = one.1;
            second = t.second;
            cost = refl;
          }),
          sum-among one.0 t.two d t.one t.two e ceiling one.2 refl t.cost is,
        )

-- costs that have the largest of a set
least : (c e n : ℕ) → min c n ≤ e → min c n ≤ min e n
least c e n h = omega arith

least-two : (c e s n : ℕ) → min c n ≤ min e n → min e n ≤ s → min c n ≤ s
least-two c e s n h h' = omega arith

least-three : (c e s n : ℕ) → min c n ≤ min e n → min e n ≤ min s n → min c n ≤ min s n
least-three c e s n h h' = omega arith

least-sum : (c d one two e n : ℕ) → min one n ≤ min e n → c ≡ one + two → min c n ≤ min (e + two) n
least-sum c d one two e n h is = omega arith

pub are-in : {m : Entries} {f : Costs} → IsBest m f → AreBest (In m) f
are-in b = record {
  covers = λ p c q x. let z = b.0 p c q x in (z.0, z.1, least c z.0 ceiling z.2);
  among = b.1;
}

pub best-through : {m : Entries} {g f : Costs} → IsBest m g → AreBest g f → IsBest m f
best-through b a = (
  (λ p c q x. let z = a.covers p c q x in
      let y = b.0 p z.0 q z.1 in
      (y.0, y.1, least-two c z.0 y.0 ceiling z.2 y.2)),
  (λ p e q is. let z = b.1 p e q is in let y = a.among p z.0 q z.1 in (y.0, y.1, z.2 ∙ y.2)),
)

pub are-through : {h g f : Costs} → AreBest h g → AreBest g f → AreBest h f
are-through b a = record {
  covers =
      λ p c q x. let z = a.covers p c q x in
      let y = b.covers p z.0 q z.1 in
      (y.0, y.1, least-three c z.0 y.0 ceiling z.2 y.2);
  among =
      λ p e q x. let z = b.among p e q x in let y = a.among p z.0 q z.1 in (y.0, y.1, z.2 ∙ y.2);
}

pub are-within : {g f : Costs} → Within g f → Within f g → AreBest g f
are-within gf fg = record {
  covers = λ p c q x. (c, fg p c q x, (let le : min c ceiling ≤ min c ceiling = omega arith in le));
  among = λ p e q x. (e, gf p e q x, refl);
}

pub are-same : {g f f' : Costs} → Within f f' → Within f' f → AreBest g f → AreBest g f'
are-same ff' f'f a = are-through a (are-within ff' f'f)

pub are-either : {a b f g : Costs} → AreBest a f → AreBest b g → AreBest (Either a b) (Either f g)
are-either {a} {b} {f} {g} x y = record { covers = covers; among = among }
  where
    covers : (p c q : ℕ) → Either f g p c q →
        (e : ℕ) × Either a b p e q × (min c ceiling ≤ min e ceiling)
    covers p c q (inl t) = let z = x.covers p c q t in (z.0, inl z.1, z.2)
    covers p c q (inr t) = let z = y.covers p c q t in (z.0, inr z.1, z.2)

    among : (p e q : ℕ) → Either a b p e q →
        (c : ℕ) × Either f g p c q × (min e ceiling ≡ min c ceiling)
    among p e q (inl t) = let z = x.among p e q t in (z.0, inl z.1, z.2)
    among p e q (inr t) = let z = y.among p e q t in (z.0, inr z.1, z.2)

pub are-then : {h g k : Costs} → AreBest h g → AreBest (Then h k) (Then g k)
are-then {h} {g} {k} x = record {
  covers = λ p c q t. let z = x.covers p t.one t.at t.first in (
    z.0 + t.two,
    record { at = t.at; one = z.0; two = t.two; first = z.1; second = t.second; cost = refl },
    least-sum c c t.one t.two z.0 ceiling z.2 t.cost,
  );
  among = λ p e q t. let z = x.among p t.one t.at t.first in (
    z.0 + t.two,
    record { at = t.at; one = z.0; two = t.two; first = z.1; second = t.second; cost = refl },
    sum-among z.0 t.two e t.one t.two e ceiling z.2 refl t.cost refl,
  );
}

-- a set that ends at own positions
abbrev pub Lands : (ℕ → Type 0) → Costs → Type 0
Lands own f = (p c q : ℕ) → f p c q → own q

pub either-lands : {own : ℕ → Type 0} {f : Costs} → Lands own f → Lands own (Either (Stays own) f)
either-lands {own} l p c q (inl x) = subst own x.1 x.0
either-lands l p c q (inr x) = l p c q x

pub power-lands : {own : ℕ → Type 0} {f : Costs} (n : ℕ) → Lands own f → Lands own (Power own f n)
power-lands {own} zero l p c q x = subst own x.1 x.0
power-lands (suc n) l p c q x = l x.at x.two q x.second

pub same : (f : Costs) {p c c' q q' : ℕ} → q ≡ q' → c ≡ c' → f p c q → f p c' q'
same f {p} {c} {c'} {q} {q'} a b x = subst (λ c. f p c q') b (subst (λ q. f p c q) a x)

-- a power of a sum is one power after the other
pub power-join : (own : ℕ → Type 0) (f : Costs) (m n : ℕ) {p c q : ℕ} →
    Then (Power own f m) (Power own f n) p c q → Power own f (m + n) p c q
power-join own f m zero {p} {c} {q} x =
    subst (λ k. Power own f k p c q) (let e : m ≡ m + 0 = omega arith in e)
    (same (Power own f m) x.second.1 (omega (arith, x.cost, x.second.2)) x.first)
power-join own f m (suc n) {p} {c} {q} x =
    subst (λ k. Power own f k p c q) (let e : suc (m + n) ≡ m + suc n = omega arith in e) (record {
      at = x.second.at;
      one = x.one + x.second.one;
      two = x.second.two;
      first = power-join own f m n (record {
        at = x.at;
        one = x.one;
        two = x.second.one;
        first = x.first;
        second = x.second.first;
        cost = refl;
      });
      second = x.second.second;
      cost = omega (arith, x.cost, x.second.cost);
    })

pub power-cut : (own : ℕ → Type 0) (f : Costs) (m n : ℕ) {p c q : ℕ} → Lands own f →
    Power own f (m + n) p c q → Then (Power own f m) (Power own f n) p c q
power-cut own f m zero {p} {c} {q} l x =
    let e : m + 0 ≡ m = omega arith in let y = subst (λ k. Power own f k p c q) e x in
    record {
      at = q;
      one = c;
      two = 0;
      first = y;
      second = (power-lands m l p c q y, refl, refl);
      cost = omega arith;
    }
power-cut own f m (suc n) {p} {c} {q} l x =
    go (λ y. power-cut own f m n l y.first)
    (subst (λ k. Power own f k p c q) (let e : m + suc n ≡ suc (m + n) = omega arith in e) x)
  where
    cut : (y : Then (Power own f (m + n)) f p c q) → Then (Power own f m)
        (Power own f n) p y.one y.at → Then (Power own f m) (Power own f (suc n)) p c q
    cut y z = record {
      at = z.at;
      one = z.one;
      two = z.two + y.two;
      first = z.first;
      second = record {
        at = y.at;
        one = z.two;
        two = y.two;
        first = z.second;
        second = y.second;
        cost = refl;
      };
      cost = omega (arith, y.cost, z.cost);
    }

    go : ((y : Then (Power own f (m + n)) f p c q) →
        Then (Power own f m) (Power own f n) p y.one y.at) → Then (Power own f (m + n)) f p c q →
        Then (Power own f m) (Power own f (suc n)) p c q
    go before y = cut y (before y)

-- a step that may stay: a lower power is within a higher one
pub power-up : (own : ℕ → Type 0) (f : Costs) (m n p c q : ℕ) → Lands own f →
    Power own (Either (Stays own) f) m p c q → Power own (Either (Stays own) f) (m + n) p c q
power-up own f m zero p c q l x =
    subst (λ k. Power own (Either (Stays own) f) k p c q) (let e : m ≡ m + 0 = omega arith in e) x
power-up own f m (suc n) p c q l x =
    let y = power-up own f m n p c q l x in
    subst (λ k. Power own (Either (Stays own) f) k p c q)
    (let e : suc (m + n) ≡ m + suc n = omega arith in e) (record {
      at = q;
      one = c;
      two = 0;
      first = y;
      second = inl (power-lands (m + n) (either-lands l) p c q y, refl, refl);
      cost = omega arith;
    })
