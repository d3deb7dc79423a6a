-- Call-graph reachability, by the table of which functions call which.
use Rattle.std.proofs.Common.{◌≡◌, ℕ, ◌<◌, ◌⊎◌, refl, arith, inl, inr}
use Rattle.std.proofs.Common.{sym, subst, ◌∙◌, Some, None, List, Bool}
use Rattle.call_bounds.specs.Reachability.{HasCall, IsCalled}
use Rattle.call_bounds.specs.declared.routines.Routine.{Routine}
use Rattle.call_bounds.specs.Build.{IsTable}
use Rattle.call_bounds.specs.CallRefusals.{IsListing}
use Rattle.call_bounds.specs.Calls.{Calls, CallsLead, IsReached, Function}
use Rattle.call_bounds.specs.Listing.{DoesCall, Listing, calls, function_at, function_count}
use Rattle.call_bounds.proofs.Facts.{callee-listed}
use Rattle.call_bounds.proofs.Numbers.{number-of, number-once, routine-of}

-- calls of the table are calls
pub row-of : (l : Listing) (table : List Bool) (j k : ℕ) → IsTable l table →
    j < function_count l → k < function_count l → DoesCall (calls l) (function_at l j)
    (function_at l k) →
    HasCall (function_count l) table j k
row-of l table j k is hj hk d = (hj, hk, (is.exact j k hj hk).1 d)

pub call-of : (l : Listing) (table : List Bool) (j k : ℕ) → IsTable l table →
    HasCall (function_count l) table j k → DoesCall (calls l) (function_at l j) (function_at l k)
call-of l table j k is d = (is.exact j k d.0 d.1).0 d.2

-- a callee of a reached function is reached
pub call-reaches : (x : Calls) (p q : Function) → IsReached x p → DoesCall x p q → IsReached x q
call-reaches x p q r d = subst (λ q. IsReached x q) (sym d.to) (IsReached.next r d.known d.call)

led-within : {n : ℕ} {table : List Bool} {j k : ℕ} → IsCalled n table j k → k < n
led-within (IsCalled.one d) = d.1
led-within (IsCalled.more l d) = d.1

led-reached : (l : Listing) (table : List Bool) (j : ℕ) → IsTable l table → IsReached (calls l)
    (function_at l j) → {k : ℕ} → IsCalled (function_count l) table j k → IsReached (calls l)
    (function_at l k)
led-reached l table j is r (IsCalled.one {k = k} d) =
    call-reaches (calls l) (function_at l j) (function_at l k) r (call-of l table j k is d)
led-reached l table j is r (IsCalled.more {j = i} {k = k} m d) =
    call-reaches (calls l) (function_at l i) (function_at l k) (led-reached l table j is r m)
    (call-of l table i k is d)

lead-one : (x : Calls) (p q : Function) → IsReached x p → DoesCall x p q → CallsLead x p q
lead-one x p q r d = subst (λ q. CallsLead x p q) (sym d.to) (CallsLead.one r d.known d.call)

lead-more : (x : Calls) (p q s : Function) → CallsLead x p q → IsReached x q → DoesCall x q s →
    CallsLead x p s
lead-more x p q s l r d =
    subst (λ s. CallsLead x p s) (sym d.to) (CallsLead.more l r d.known d.call)

-- calls lead to a function that the table leads to
pub lead-of : (l : Listing) (table : List Bool) (j : ℕ) → IsTable l table →
    IsReached (calls l) (function_at l j) → {k : ℕ} → IsCalled (function_count l) table j k →
    CallsLead (calls l) (function_at l j) (function_at l k)
lead-of l table j is r (IsCalled.one {k = k} d) =
    lead-one (calls l) (function_at l j) (function_at l k) r (call-of l table j k is d)
lead-of l table j is r (IsCalled.more {j = i} {k = k} m d) =
    lead-more (calls l) (function_at l j) (function_at l i) (function_at l k) (lead-of l
    table j is r m)
    (led-reached l table j is r m) (call-of l table i k is d)

-- the converse
abbrev HasLed : Listing → List Bool → ℕ → Function → Type 0
HasLed l table j q = (k : ℕ) × (function_at l k ≡ q) × IsCalled (function_count l) table j k

led-one : (l : Listing) (table : List Bool) (j u : ℕ) (r : Routine) → IsTable l table →
    j < function_count l → (d : DoesCall (calls l) (function_at l j) (Some r)) →
    HasLed l table j (Some r)
led-one l table j u r is h d =
    let z = number-of l r (callee-listed (calls l) d.word r (d.call ∙ sym d.to)) in (
      z.0,
      z.3,
      IsCalled.one (row-of l table j z.0 is h z.2
          (subst (λ q. DoesCall (calls l) (function_at l j) q) (sym z.3) d)),
    )

led-more : (l : Listing) (table : List Bool) (j i : ℕ) (r : Routine) → IsTable l table →
    IsCalled (function_count l) table j i → (d : DoesCall (calls l) (function_at l i) (Some r)) →
    HasLed l table j (Some r)
led-more l table j i r is m d =
    let z = number-of l r (callee-listed (calls l) d.word r (d.call ∙ sym d.to)) in (
      z.0,
      z.3,
      IsCalled.more m (row-of l table i z.0 is (led-within m) z.2
          (subst (λ q. DoesCall (calls l) (function_at l i) q) (sym z.3) d)),
    )

pub led-of : (l : Listing) (table : List Bool) (j : ℕ) → IsTable l table → j < function_count l →
    {q : Function} → CallsLead (calls l) (function_at l j) q → HasLed l table j q
led-of l table j is h (CallsLead.one {u = u} {r = r} b w e) =
    led-one l table j u r is h (record { routine = r; word = u; known = w; call = e; to = refl })
led-of l table j is h (CallsLead.more {q = q} {u = u} {r = r} m b w e) =
    go (led-of l table j is h m)
  where
    go : HasLed l table j q → HasLed l table j (Some r)
    go z =
        led-more l table j z.0 r is z.2 (subst (λ p. DoesCall (calls l) p (Some r)) (sym z.1)
        (record { routine = r; word = u; known = w; call = e; to = refl }))

-- a routine from which calls lead back to it, by the table
pub back-of : (l : Listing) (table : List Bool) (j : ℕ) (r : Routine) →
    IsListing (calls l) → IsTable l table → j < function_count l → function_at l j ≡ Some r →
    CallsLead (calls l) (Some r) (Some r) → IsCalled (function_count l) table j j
back-of l table j r ok is h e m =
    let z = led-of l table j is h (subst (λ p. CallsLead (calls l) p (Some r)) (sym e) m) in
    subst (λ k. IsCalled (function_count l) table j k)
    (number-once l ok z.0 j r (led-within z.2) h z.1 e) z.2

-- the reached functions are the section and those that calls lead to from it
pub reached-led : (l : Listing) (table : List Bool) → IsTable l table → {q : Function} →
    IsReached (calls l) q → (q ≡ None) ⊎ HasLed l table 0 q
reached-led l table is IsReached.first = inl refl
reached-led l table is (IsReached.next {p = p} {u = u} {r = r} b w e) =
    go (reached-led l table is b)
  where
    go : (p ≡ None) ⊎ HasLed l table 0 p → (Some r ≡ None) ⊎ HasLed l table 0 (Some r)
    go (inl first) =
        inr (led-one l table 0 u r is (omega arith) (subst (λ p. DoesCall (calls l) p (Some r))
        first (record { routine = r; word = u; known = w; call = e; to = refl })))
    go (inr z) =
        inr (led-more l table 0 z.0 r is z.2 (subst (λ p. DoesCall (calls l) p (Some r)) (sym z.1)
        (record { routine = r; word = u; known = w; call = e; to = refl })))

-- by number
pub reached-row : (l : Listing) (table : List Bool) (k : ℕ) → IsListing (calls l) →
    IsTable l table → k < function_count l → IsReached (calls l) (function_at l k) →
    (k ≡ 0) ⊎ IsCalled (function_count l) table 0 k
reached-row l table k ok is h r = go (let z : (k ≡ 0) ⊎ (0 < k) = grind arith in z)
  where
    go : (k ≡ 0) ⊎ (0 < k) → (k ≡ 0) ⊎ IsCalled (function_count l) table 0 k
    go (inl e) = inl e
    go (inr some) = let z = routine-of l k some h in elim (reached-led l table is r) [
      | inl none ↦ absurd (let y : Some z.0 ≡ None = sym z.1 ∙ none in cc)
      | inr y ↦
          inr (subst (λ i. IsCalled (function_count l) table 0 i)
          (number-once l ok y.0 k z.0 (led-within y.2) h (y.1 ∙ z.1) z.1) y.2)
    ]

pub row-reached : (l : Listing) (table : List Bool) (k : ℕ) → IsTable l table →
    (k ≡ 0) ⊎ IsCalled (function_count l) table 0 k → IsReached (calls l) (function_at l k)
row-reached l table k is (inl e) =
    subst (λ i. IsReached (calls l) (function_at l i)) (sym e) IsReached.first
row-reached l table k is (inr m) = led-reached l table 0 is IsReached.first m
