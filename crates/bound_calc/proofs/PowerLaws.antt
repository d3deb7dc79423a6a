-- Squaring.
use Rattle.std.proofs.Common.{◌≡◌, ℕ, zero, suc, ◌+◌, ◌≤◌, ◌∙◌, min, refl, arith, subst, sym, Some}
use Rattle.bound_calc.specs.declared.matrix.Matrix.{Matrix}
use Rattle.bound_calc.specs.Best.{Among, Costs, Covers, Entries, In, IsBest, Power, Then, ceiling}
use Rattle.bound_calc.specs.Matrices.{entry}
use Rattle.bound_calc.proofs.BestLaws.{Lands, best-then}
use Rattle.bound_calc.proofs.Entries.{min-under}
use Rattle.bound_calc.proofs.Passes.{power-double}

pub squared : (own : ℕ → Type 0) (f : Costs) (a c : Matrix) (h n : ℕ) → n ≡ h + h → Lands own f →
    IsBest (entry a) (Power own f h) → IsBest (entry c) (Then (In (entry a)) (In (entry a))) →
    IsBest (entry c) (Power own f n)
squared own f a c h n e l x y =
    subst (λ n. IsBest (entry c) (Power own f n)) (sym e) (power-double h l x y)

pub once_more : (own : ℕ → Type 0) (a b c : Matrix) (h n : ℕ) → n ≡ suc h → IsBest (entry a)
    (Power own (In (entry b)) h) → IsBest (entry c) (Then (In (entry a)) (In (entry b))) →
    IsBest (entry c) (Power own (In (entry b)) n)
once_more own a b c h n e x y =
    subst (λ n. IsBest (entry c) (Power own (In (entry b)) n)) (sym e) (best-then x
    (λ p c q z. (c, z, min-under c c ceiling (omega arith)), λ p c q z. (c, z, refl)) y)

-- powers of a matrix are powers of its set
sum-under : (a b c one two n : ℕ) → min one n ≡ min a n → min two n ≡ min b n → c ≡ one + two →
    min c n ≡ min (a + b) n
sum-under a b c one two n h1 h2 is = omega arith

sum-over : (a b c d e n : ℕ) → min a n ≤ d → min b n ≤ e → c ≡ a + b → min c n ≤ d + e
sum-over a b c d e n h1 h2 is = omega arith

power-under : (own : ℕ → Type 0) (f : Costs) (b : Entries) → Among b f → (n p c q : ℕ) →
    Power own (In b) n p c q → (d : ℕ) × Power own f n p d q × (min c ceiling ≡ min d ceiling)
power-under own f b h zero p c q x = (c, x, refl)
power-under own f b h (suc n) p c q x =
    go (power-under own f b h n p x.one x.at x.first) (h x.at x.two q x.second)
  where
    go : (d : ℕ) × Power own f n p d x.at × (min x.one ceiling ≡ min d ceiling) →
        (e : ℕ) × f x.at e q × (min x.two ceiling ≡ min e ceiling) →
        (d : ℕ) × Power own f (suc n) p d q × (min c ceiling ≡ min d ceiling)
    go (d, y, is) (e, z, is') = (
      d + e,
      record { at = x.at; one = d; two = e; first = y; second = z; cost = refl },
      sum-under d e c x.one x.two ceiling is is' x.cost,
    )

power-over : (own : ℕ → Type 0) (f : Costs) (b : Entries) → Covers b f → (n p c q : ℕ) →
    Power own f n p c q → (d : ℕ) × (min c ceiling ≤ d) × Power own (In b) n p d q
power-over own f b h zero p c q x = (c, min-under c c ceiling (omega arith), x)
power-over own f b h (suc n) p c q x =
    go (power-over own f b h n p x.one x.at x.first) (h x.at x.two q x.second)
  where
    go : (d : ℕ) × (min x.one ceiling ≤ d) × Power own (In b) n p d x.at →
        (e : ℕ) × (b x.at q ≡ Some e) × (min x.two ceiling ≤ e) →
        (d : ℕ) × (min c ceiling ≤ d) × Power own (In b) (suc n) p d q
    go (d, le, y) (e, is, le') = (
      d + e,
      sum-over x.one x.two c d e ceiling le le' x.cost,
      record { at = x.at; one = d; two = e; first = y; second = is; cost = refl },
    )

once-over : (c d e n : ℕ) → min c n ≤ d → min d n ≤ e → min c n ≤ e
once-over c d e n h h' = omega arith

pub power-best : (own : ℕ → Type 0) (f : Costs) (b r : Entries) (n : ℕ) → IsBest b f →
    IsBest r (Power own (In b) n) → IsBest r (Power own f n)
power-best own f b r n best x = (
  covers,
  λ p e q is. let z = x.1 p e q is in
      let y = power-under own f b best.1 n p z.0 q z.1 in
      (y.0, y.1, z.2 ∙ y.2),
)
  where
    covers : Covers r (Power own f n)
    covers p c q y =
        let z = power-over own f b best.0 n p c q y in
        let w = x.0 p z.0 q z.2 in (w.0, w.1, once-over c z.0 w.0 ceiling z.1 w.2)
