-- Matrices of sets of costs that hold at some index, and of sets whose costs are equal up to the
-- ceiling.
use Rattle.std.proofs.Common.{◌≡◌, ℕ, ◌+◌, ◌<◌, ◌≤◌, ◌⊎◌, ◌∙◌, arith}
use Rattle.std.proofs.Common.{inl, inr, subst, min, Some}
use Rattle.bound_calc.specs.Best.{Costs, Either, Entries, In, IsBest, ceiling}
use Rattle.bound_calc.proofs.BestLaws.{Within, best-either, best-same}
use Rattle.call_bounds.specs.Summaries.{Any}

once-covers : (c e s n : ℕ) → min c n ≤ e → min e n ≤ s → min c n ≤ s
once-covers c e s n h h' = omega arith

-- two sets: each cost of one has a cost of the other that is equal or larger, up to the ceiling
pub record Alike (f g : Costs) : Type 0 where
  pub covers : (p c q : ℕ) → f p c q → (e : ℕ) × g p e q × (min c ceiling ≤ e)
  pub among : (p e q : ℕ) → g p e q → (c : ℕ) × f p c q × (min e ceiling ≡ min c ceiling)

pub best-alike : {m : Entries} {f g : Costs} → Alike f g → IsBest m g → IsBest m f
best-alike {m} {f} {g} a b = (
  (λ p c q x. let y = a.covers p c q x in
      let z = b.0 p y.0 q y.1 in
      (z.0, z.1, once-covers c y.0 z.0 ceiling y.2 z.2)),
  (λ p e q is. let z = b.1 p e q is in let y = a.among p z.0 q z.1 in (y.0, y.1, z.2 ∙ y.2)),
)

pub alike-either : {f g h i : Costs} → Alike f g → Alike h i → Alike (Either f h) (Either g i)
alike-either {f} {g} {h} {i} a b = record { covers = covers; among = among }
  where
    covers : (p c q : ℕ) → Either f h p c q → (e : ℕ) × Either g i p e q × (min c ceiling ≤ e)
    covers p c q (inl x) = let y = a.covers p c q x in (y.0, inl y.1, y.2)
    covers p c q (inr x) = let y = b.covers p c q x in (y.0, inr y.1, y.2)

    among : (p e q : ℕ) → Either g i p e q →
        (c : ℕ) × Either f h p c q × (min e ceiling ≡ min c ceiling)
    among p e q (inl x) = let y = a.among p e q x in (y.0, inl y.1, y.2)
    among p e q (inr x) = let y = b.among p e q x in (y.0, inr y.1, y.2)

-- a set joined with a matrix
pub best-onto : {a c : Entries} {f g : Costs} → IsBest a f → IsBest c (Either (In a) g) →
    IsBest c (Either f g)
best-onto {a} {c} {f} {g} x z =
    (covers, λ p e q is. let t = z.1 p e q is in among p e q t.0 t.1 t.2)
  where
    covers : (p n q : ℕ) → Either f g p n q → (e : ℕ) × (c p q ≡ Some e) × (min n ceiling ≤ e)
    covers p n q (inl t) =
        let one = x.0 p n q t in
        let s = z.0 p one.0 q (inl one.1) in (s.0, s.1, once-covers n one.0 s.0 ceiling one.2 s.2)
    covers p n q (inr t) = z.0 p n q (inr t)

    among : (p e q d : ℕ) → Either (In a) g p d q → min e ceiling ≡ min d ceiling →
        (n : ℕ) × Either f g p n q × (min e ceiling ≡ min n ceiling)
    among p e q d (inl t) is = let one = x.1 p d q t in (one.0, inl one.1, is ∙ one.2)
    among p e q d (inr t) is = (d, inr t, is)

pub any-none : {m : Entries} {f : ℕ → Costs} → ((p q c : ℕ) → m p q ≡ Some c → ⊥) →
    IsBest m (Any f 0)
any-none none =
    ((λ p c q x. absurd (let b = x.1 in omega arith)), (λ p e q is. absurd (none p q e is)))

-- a set that holds below n + 1 holds below n, or at n
split : (f : ℕ → Costs) {n p c q : ℕ} → Any f (n + 1) p c q → Any f n p c q ⊎ f n p c q
split f {n} {p} {c} {q} (k, lt, x) = go (let z : (k < n) ⊎ (k ≡ n) = grind arith in z)
  where
    go : (k < n) ⊎ (k ≡ n) → Any f n p c q ⊎ f n p c q
    go (inl below) = inl (k, below, x)
    go (inr same) = inr (subst (λ k. f k p c q) same x)

wider : (f : ℕ → Costs) {n p c q : ℕ} → Any f n p c q → Any f (n + 1) p c q
wider f (k, lt, x) = (k, omega arith, x)

last : (f : ℕ → Costs) {n p c q : ℕ} → f n p c q → Any f (n + 1) p c q
last f {n} x = (n, omega arith, x)

pub any-more : {back new : Entries} (f : ℕ → Costs) (n : ℕ) → IsBest back (Any f n) →
    IsBest new (Either (In back) (f n)) → IsBest new (Any f (n + 1))
any-more f n a b = best-same there (λ p c q z. split f z) (best-onto a b)
  where
    there : Within (Either (Any f n) (f n)) (Any f (n + 1))
    there p c q (inl z) = wider f z
    there p c q (inr z) = last f z

-- two sets joined with a matrix, one after the other
pub end-more : {onto one two three : Entries} {f g : Costs} →
    IsBest one (Either (In onto) f) → IsBest two g → IsBest three (Either (In one) (In two)) →
    IsBest three (Either (In onto) (Either f g))
end-more {onto} {one} {two} {three} {f} {g} a b c = best-same there away (best-either a b c)
  where
    there : Within (Either (Either (In onto) f) g) (Either (In onto) (Either f g))
    there p c q (inl (inl z)) = inl z
    there p c q (inl (inr z)) = inr (inl z)
    there p c q (inr z) = inr (inr z)

    away : Within (Either (In onto) (Either f g)) (Either (Either (In onto) f) g)
    away p c q (inl z) = inl (inl z)
    away p c q (inr (inl z)) = inl (inr z)
    away p c q (inr (inr z)) = inr z
