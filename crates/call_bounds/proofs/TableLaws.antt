-- The table of which functions call which, row by row.
use Rattle.std.proofs.Common.{◌≡◌, ◌≢◌, ℕ, ◌+◌, ◌-◌, ◌*◌, ◌/◌, ◌<◌, ◌≤◌, ◌⊎◌, ◌↔◌, refl}
use Rattle.std.proofs.Common.{arith, inl, inr, ap, sym, subst, ◌∙◌, Option, Some, None}
use Rattle.std.proofs.Common.{IfSome, MatchOption, List, [], ◌++◌, length, Contains}
use Rattle.std.proofs.Common.{slice_index_or, Bool, true, false, slice_set, length-set}
use Rattle.std.proofs.Common.{get_or-set_same, get_or-set_other, length-append}
use Rattle.std.proofs.Math.ListN.{get_or-append}
use Rattle.std.proofs.lemmas.List.{get_or-append-add}
use Rattle.std.proofs.Math.Nat.{mul-le-mul_right}
use Rattle.call_bounds.specs.Reachability.{is_met}
use Rattle.region_tree.specs.Graph.{Reachable}
use Rattle.region_tree.specs.Search.{Before, address}
use Rattle.region_tree.specs.Tree.{IsDraft, IsSection, Tree, graph}
use Rattle.region_tree.proofs.DraftLaws.{draft-is}
use Rattle.region_tree.proofs.GraphLaws.{index-address, index-within}
use Rattle.region_tree.proofs.GraphLaws.{reachable-aligned, reachable-lies}
use Rattle.call_bounds.specs.declared.routines.Routine.{Routine}
use Rattle.call_bounds.specs.Build.{CallsAt, IsRow, IsRowTo, IsTableTo, Marked}
use Rattle.call_bounds.specs.CallRefusals.{IsListing}
use Rattle.call_bounds.specs.Calls.{callee, function, range}
use Rattle.call_bounds.specs.Listing.{DoesCall, Listing, calls, function_at, function_count}
use Rattle.call_bounds.specs.Patched.{function_tree, patched_word}
use Rattle.call_bounds.proofs.Agree.{back, reach}
use Rattle.call_bounds.proofs.Numbers.{number-once, function-section, routine-of}
use Rattle.call_bounds.proofs.PatchLaws.{agrees}

is_or_not : (a b : ℕ) → (a ≡ b) ⊎ (a ≢ b)
is_or_not a b = grind arith

-- a function was marked
pub marked : (o : Option ℕ) (k : ℕ) (row : List Bool) → o ≡ Some k → k < length row →
    Marked o row (slice_set row k true)
marked o k row is lt = record {
  count = length-set row k true;
  grows = λ u h. grows u h (is_or_not u k);
  here =
      λ u h. let same : Some k ≡ Some u = sym is ∙ h in
      let e : k ≡ u = cc in
      subst (λ u. is_met (slice_set row k true) u ≡ true) e (get_or-set_same row k true false lt);
  from = λ u h. came u h (is_or_not u k);
}
  where
    grows : (u : ℕ) → is_met row u ≡ true → (u ≡ k) ⊎ (u ≢ k) →
        is_met (slice_set row k true) u ≡ true
    grows u h (inl same) =
        subst (λ u. is_met (slice_set row k true) u ≡ true) (sym same)
        (get_or-set_same row k true false lt)
    grows u h (inr other) = get_or-set_other row k u true false other ∙ h

    came : (u : ℕ) → is_met (slice_set row k true) u ≡ true → (u ≡ k) ⊎ (u ≢ k) →
        (is_met row u ≡ true) ⊎ (o ≡ Some u)
    came u h (inl same) = inr (is ∙ ap Some (sym same))
    came u h (inr other) = inl (sym (get_or-set_other row k u true false other) ∙ h)

pub unmarked : (row : List Bool) → Marked None row row
unmarked row = record { count = refl; grows = λ k h. h; here = λ k h. cc; from = λ k h. inl h }

-- the function that a word calls, as the code returns it
pub calls-at : (l : Listing) (t : Tree) (index : ℕ) (r : Option ℕ) →
    IsListing (calls l) → Reachable (graph t) (address t index) →
    MatchOption r (callee (calls l) (address t index) ≡ None)
    (λ k. (0 < k) × (k < function_count l) × (callee (calls l) (address t index) ≡ function_at l k))
    →
    (k : ℕ) → (r ≡ Some k) ↔ CallsAt l t index k
calls-at l t index None is known says k = (
  λ e. cc,
  λ (h : CallsAt l t index k). let z = routine-of l k h.routine h.listed in let e : None
      ≡ Some z.0 = sym says ∙ (h.call ∙ z.1) in cc,
)
calls-at l t index (Some j) is known says k = (
  λ e. let same : j ≡ k = cc in subst (λ k. CallsAt l t index k) same here,
  λ (h : CallsAt l t index k). once h (routine-of l k h.routine h.listed),
)
  where
    here : CallsAt l t index j
    here = record { known = known; routine = says.0; listed = says.1; call = says.2 }

    once : (h : CallsAt l t index k) →
        (r : Routine) × (function_at l k ≡ Some r) × Contains l.routines r → Some j ≡ Some k
    once h z = ap Some (number-once l is j k z.0 says.1 h.listed (sym says.2 ∙ (h.call ∙ z.1)) z.1)

pub calls-none : (l : Listing) (t : Tree) (index : ℕ) →
    (Reachable (graph t) (address t index) → ⊥) → (k : ℕ) → (None ≡ Some k) ↔ CallsAt l t index k
calls-none l t index out k = (λ e. cc, λ (h : CallsAt l t index k). absurd (out h.known))

-- no word so far
pub row-start : (l : Listing) (t : Tree) (row : List Bool) → length row ≡ function_count l →
    ((k : ℕ) → is_met row k ≡ false) → IsRowTo l t 0 row
row-start l t row count none = record {
  count = count;
  exact = λ k. (
    λ h. absurd (let z : false ≡ true = sym (none k) ∙ h in cc),
    λ h. absurd (omega (arith, h.1)),
  );
}

-- one more word
pub row-next : (l : Listing) (t : Tree) (c : ℕ) (o : Option ℕ) (old new : List Bool) →
    ((k : ℕ) → (o ≡ Some k) ↔ CallsAt l t c k) → Marked o old new → IsRowTo l t c old →
    IsRowTo l t (c + 1) new
row-next l t c o old new is m r = record {
  count = m.count ∙ r.count;
  exact = λ k. (there k, λ h. here k h (let z : (h.0 < c) ⊎ (c ≡ h.0) = grind (arith, h.1) in z));
}
  where
    there : (k : ℕ) → is_met new k ≡ true → Before (CallsAt l t) (c + 1) k
    there k h = elim (m.from k h) [
      | inl old ↦ (let z = (r.exact k).0 old in (z.0, omega (arith, z.1), z.2))
      | inr e ↦ (c, omega arith, (is k).0 e)
    ]

    here : (k : ℕ) → (h : Before (CallsAt l t) (c + 1) k) → (h.0 < c) ⊎ (c ≡ h.0) →
        is_met new k ≡ true
    here k h (inl below) = m.grows k ((r.exact k).1 (h.0, below, h.2))
    here k h (inr same) = m.here k ((is k).1 (subst (λ i. CallsAt l t i k) (sym same) h.2))

-- a marked number is that of a function
pub mark-within : (l : Listing) (t : Tree) (c d : ℕ) (row : List Bool) (o : Option ℕ) →
    ((k : ℕ) → (o ≡ Some k) ↔ CallsAt l t c k) → IsRowTo l t d row → IfSome o (λ k. k < length row)
mark-within l t c d row None is r = tt
mark-within l t c d row (Some k) is r = let z = ((is k).0 refl).listed in omega (arith, r.count)

pos : (k : ℕ) → (k ≡ 0 → ⊥) → 0 < k
pos k never =
    elim (let z : (k ≡ 0) ⊎ (0 < k) = grind arith in z) [ inl e ↦ absurd (never e) | inr lt ↦ lt ]

-- all words of a function
pub row-all : (l : Listing) (t : Tree) (p : ℕ) (row : List Bool) →
    IsListing (calls l) → p < function_count l → t ≡ function_tree (calls l) (function_at l p) →
    IsRowTo l t (length t.words) row → IsRow l p row
row-all l t p row listing within same r = record {
  count = r.count;
  exact = λ k lt. (λ h. there k ((r.exact k).0 h), λ h. (r.exact k).1 (here k lt h));
}
  where
    is : IsSection (range (calls l) (function_at l p))
    is = function-section l listing p within

    d : IsDraft t
    d =
        subst IsDraft (sym same) (draft-is (patched_word (calls l) (function_at l p))
        (range (calls l) (function_at l p)) l.loops is listing.loops)

    there : (k : ℕ) → Before (CallsAt l t) (length t.words) k →
        DoesCall (calls l) (function_at l p) (function_at l k)
    there k h =
        let z = routine-of l k h.2.routine h.2.listed in
        record {
          routine = z.0;
          word = address t h.0;
          known =
              (reach (agrees (calls l) (function_at l p) is)
              (subst (λ y. Reachable (graph y) (address t h.0)) same h.2.known)).0;
          call = h.2.call ∙ z.1;
          to = z.1;
        }

    here : (k : ℕ) → k < function_count l → (h : DoesCall (calls l) (function_at l p)
        (function_at l k)) →
        Before (CallsAt l t) (length t.words) k
    here k lt h =
        let known : Reachable (graph t) h.word = subst (λ y. Reachable (graph y) h.word) (sym same)
        (back (function (calls l) (function_at l p)).loops (agrees (calls l) (function_at l p) is)
        h.known).0 in
        let lies = reachable-lies t d h.word known in
        let at = index-address t d h.word (reachable-aligned t d h.word known) lies in
        let some : 0 < k = pos k (λ e.
        let y : None ≡ Some h.routine = subst (λ i. function_at l i ≡ Some h.routine) e
        h.to in cc) in (
          (h.word - t.section.from) / 4,
          index-within t d h.word lies,
          record {
            known = subst (λ u. Reachable (graph t) u) (sym at) known;
            routine = some;
            listed = lt;
            call = ap (λ u. callee (calls l) u) at ∙ (h.call ∙ sym h.to);
          },
        )

pub table-start : (l : Listing) → IsTableTo l 0 []
table-start l = record {
  count = let z : 0 ≡ 0 * function_count l = omega arith in z;
  exact = λ j k lt h. absurd (omega arith);
}

-- one more row
pub table-next : (l : Listing) (c : ℕ) (table row table' : List Bool) → table' ≡ table ++ row →
    IsRow l c row → IsTableTo l c table → IsTableTo l (c + 1) table'
table-next l c table row table' is r t = subst (IsTableTo l (c + 1)) (sym is) (record {
  count =
      let z = length-append table row in
      let a = t.count in
      let b = r.count in
      (let y : length table + length row ≡ (c + 1) * function_count l = omega arith in z ∙ y);
  exact = λ j k lt h. go j k h (let z : (j < c) ⊎ (j ≡ c) = grind arith in z);
})
  where
    go : (j k : ℕ) → k < function_count l → (j < c) ⊎ (j ≡ c) →
        (slice_index_or (table ++ row) (j * function_count l + k) false ≡ true) ↔ DoesCall (calls l)
        (function_at l j) (function_at l k)
    go j k h (inl below) =
        let rows : (j + 1) * function_count l ≤ c * function_count l =
        mul-le-mul_right (function_count l) (let z : j + 1 ≤ c = omega arith in z) in
        let at : slice_index_or (table ++ row) (j * function_count l + k) false
        ≡ slice_index_or table (j * function_count l + k) false =
        get_or-append table row false (j * function_count l + k) (let a = t.count in omega arith) in
        subst (λ b. (b ≡ true) ↔ DoesCall (calls l) (function_at l j) (function_at l k)) (sym at)
        (t.exact j k below h)
    go j k h (inr same) =
        let at : slice_index_or (table ++ row) (j * function_count l + k) false
        ≡ slice_index_or row k false =
        ap (λ i. slice_index_or (table ++ row) i false) (let a = t.count in
        let z : j * function_count l
        + k ≡ length table + k = subst (λ i. i * function_count l + k ≡ length table + k)
        (sym same) (let y : c * function_count l + k ≡ length table + k = omega arith in y) in z)
        ∙ get_or-append-add table row k false in
        subst (λ b. (b ≡ true) ↔ DoesCall (calls l) (function_at l j) (function_at l k)) (sym at)
        (subst (λ i. (slice_index_or row k false ≡ true) ↔ DoesCall (calls l) (function_at l i)
        (function_at l k)) (sym same) (r.exact k h))
