-- The functions by number.
use Rattle.std.proofs.Common.{◌≡◌, ℕ, zero, suc, ◌+◌, ◌-◌, ◌<◌, ◌≤◌, ◌⊎◌, refl}
use Rattle.std.proofs.Common.{arith, inl, inr, ap, sym, subst, ◌∙◌, Some, None}
use Rattle.std.proofs.Common.{List, [], ◌∷◌, length, map, slice_index_or, Contains}
use Rattle.std.proofs.lemmas.List.{get_or-map}
use Rattle.std.proofs.lemmas.List.Elements.{Contains-get_or}
use Rattle.region_tree.specs.Tree.{IsSection}
use Rattle.call_bounds.specs.Routines.{IsRoutine, Rise}
use Rattle.call_bounds.specs.declared.routines.Routine.{Routine}
use Rattle.call_bounds.specs.CallRefusals.{IsListing}
use Rattle.call_bounds.specs.Calls.{IsReached, Function, range}
use Rattle.call_bounds.specs.Listing.{Listing, calls, function_at, function_count}
use Rattle.call_bounds.proofs.Facts.{callee-listed}

none : Routine
none = record { head = 0; last = 0 }

cons-get : (xs : List Function) (k : ℕ) →
    slice_index_or (None ∷ xs) (k + 1) None ≡ slice_index_or xs k None
cons-get xs k =
    let e : k + 1 ≡ suc k = omega arith in
    subst (λ i. slice_index_or (None ∷ xs) i None ≡ slice_index_or xs k None) (sym e) refl

-- the routine of a function
pub function-routine : (l : Listing) (k : ℕ) (d : Routine) → k < length l.routines →
    function_at l (k + 1) ≡ Some (slice_index_or l.routines k d)
function-routine l k d h = cons-get (map Some l.routines) k ∙ get_or-map Some l.routines k d None h

pub function-first : (l : Listing) → function_at l 0 ≡ None
function-first l = refl

-- each function but the first is a listed routine
pub routine-of : (l : Listing) (k : ℕ) → 0 < k → k < function_count l →
    (r : Routine) × (function_at l k ≡ Some r) × Contains l.routines r
routine-of l k some h =
    let e : (k - 1) + 1 ≡ k = omega arith in
    let lt : k - 1 < length l.routines = omega arith in (
      slice_index_or l.routines (k - 1) none,
      subst (λ i. function_at l i ≡ Some (slice_index_or l.routines (k - 1) none)) e
          (function-routine l (k - 1) none lt),
      Contains-get_or l.routines (k - 1) none lt,
    )

-- the number of a listed routine
pub number-of : (l : Listing) (r : Routine) → Contains l.routines r →
    (k : ℕ) × (0 < k) × (k < function_count l) × (function_at l k ≡ Some r)
number-of l r h = (
  h.0 + 1,
  omega arith,
  omega (arith, h.1),
  function-routine l h.0 r h.1
      ∙ ap Some h.2,
)

-- each reached function has a number
pub reached-number : (l : Listing) (p : Function) → IsReached (calls l) p →
    (k : ℕ) × (k < function_count l) × (function_at l k ≡ p)
reached-number l p IsReached.first = (0, omega arith, refl)
reached-number l p (IsReached.next {u = u} {r = r} b w e) =
    let z = number-of l r (callee-listed (calls l) u r e) in (z.0, z.2, z.3)

pub rise-apart : (rs : List Routine) → Rise rs → ((r : Routine) → Contains rs r → r.head ≤ r.last) →
    (i j : ℕ) (d : Routine) → i < j → j < length rs →
    (slice_index_or rs i d).head < (slice_index_or rs j d).head
rise-apart [] rise ok i j d lt h = absurd (omega arith)
rise-apart (r ∷ rs) rise ok zero zero d lt h = absurd (omega arith)
rise-apart (r ∷ rs) rise ok zero (suc j) d lt h =
    let a = rise.0 (slice_index_or rs j d) (Contains-get_or rs j d (omega arith)) in
    let b = ok r (0, omega arith, refl) in
    omega arith
rise-apart (r ∷ rs) rise ok (suc i) zero d lt h = absurd (omega arith)
rise-apart (r ∷ rs) rise ok (suc i) (suc j) d lt h =
    rise-apart rs rise.1 (λ t c. ok t (suc c.0, omega (arith, c.1), c.2)) i j d
    (omega arith) (omega arith)

-- the order of routines is that of their numbers
pub heads-rise : (l : Listing) → IsListing (calls l) → (j k : ℕ) (r t : Routine) → j < k →
    k < function_count l → function_at l j ≡ Some r → function_at l k ≡ Some t → r.head < t.head
heads-rise l is zero k r t lt h a b = cc
heads-rise l is (suc j) zero r t lt h a b = absurd (omega arith)
heads-rise l is (suc j) (suc k) r t lt h a b =
    let x : function_at l (suc j) ≡ Some (slice_index_or l.routines j none) =
    subst (λ i. function_at l i ≡ Some (slice_index_or l.routines j none))
    (let e : j + 1 ≡ suc j = omega arith in e) (function-routine l j none (omega arith)) in
    let y : function_at l (suc k) ≡ Some (slice_index_or l.routines k none) =
    subst (λ i. function_at l i ≡ Some (slice_index_or l.routines k none))
    (let e : k + 1 ≡ suc k = omega arith in e) (function-routine l k none (omega arith)) in
    let first : slice_index_or l.routines j none ≡ r = cc in
    let second : slice_index_or l.routines k none ≡ t = cc in
    let z = rise-apart l.routines is.routines.rise
    (λ r c. (is.routines.each r c).order) j k none (omega arith) (omega arith) in
    subst (λ (t : Routine). r.head < t.head) second
    (subst (λ (r : Routine). r.head < (slice_index_or l.routines k none).head) first z)

-- a function has one number
pub number-once : (l : Listing) → IsListing (calls l) → (j k : ℕ) (r : Routine) →
    j < function_count l →
    k < function_count l → function_at l j ≡ Some r → function_at l k ≡ Some r → j ≡ k
number-once l is j k r hj hk a b = go (let z : (j < k) ⊎ ((j ≡ k) ⊎ (k < j)) = grind arith in z)
  where
    go : (j < k) ⊎ ((j ≡ k) ⊎ (k < j)) → j ≡ k
    go (inl lt) = absurd (let z = heads-rise l is j k r r lt hk a b in omega arith)
    go (inr (inl e)) = e
    go (inr (inr gt)) = absurd (let z = heads-rise l is k j r r gt hj b a in omega arith)

-- a routine is a section
pub routine-section : (r : Routine) → IsRoutine r →
    IsSection (record { from = r.head; to = r.last + 4 })
routine-section r o = record {
  order = let a = o.order in omega arith;
  from_aligned = o.head_aligned;
  to_aligned = let a = o.last_aligned in omega arith;
  end = let a = o.end in omega arith;
}

-- each function is a section
pub function-section : (l : Listing) → IsListing (calls l) → (k : ℕ) → k < function_count l →
    IsSection (range (calls l) (function_at l k))
function-section l is k h = go (let z : (k ≡ 0) ⊎ (0 < k) = grind arith in z)
  where
    go : (k ≡ 0) ⊎ (0 < k) → IsSection (range (calls l) (function_at l k))
    go (inl e) = subst (λ i. IsSection (range (calls l) (function_at l i))) (sym e) is.section
    go (inr some) =
        let z = routine-of l k some h in subst (λ p. IsSection (range (calls l) p)) (sym z.1)
        (routine-section z.0 (is.routines.each z.0 z.2))

-- a function's routine, by its index in the list
pub routine-function : (l : Listing) (k : ℕ) (d : Routine) → 0 < k → k < function_count l →
    function_at l k ≡ Some (slice_index_or l.routines (k - 1) d)
routine-function l k d some h =
    let e : (k - 1) + 1 ≡ k = omega arith in
    subst (λ i. function_at l i ≡ Some (slice_index_or l.routines (k - 1) d)) e
    (function-routine l (k - 1) d (omega arith))
