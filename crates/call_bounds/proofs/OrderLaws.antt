-- The reached functions, those that calls lead back to, and the number that calls lead to.
use Rattle.std.proofs.Common.{◌≡◌, ◌≢◌, ℕ, ◌+◌, ◌<◌, ◌≤◌, ◌⊎◌, ◌↔◌, refl, arith, inl}
use Rattle.std.proofs.Common.{inr, ap, sym, subst, ◌∙◌, cond, Some, None, List, [], ◌∷◌}
use Rattle.std.proofs.Common.{◌++◌, length, Bool, true, false, slice_set, length-set}
use Rattle.std.proofs.Common.{get_or-set_same, get_or-set_other, count_by, length-append}
use Rattle.std.proofs.Math.ListN.{get_or-append}
use Rattle.std.proofs.lemmas.List.{get_or-append-add}
use Rattle.std.proofs.lemmas.List.Sums.{count_by-le-length, sum_by-cons}
use Rattle.call_bounds.specs.Reachability.{HasCall, IsExact}
use Rattle.call_bounds.specs.Reachability.{IsCalled, is_met, unmet_count}
use Rattle.call_bounds.proofs.RankLaws.{rank-falls}
use Rattle.region_tree.specs.Refusals.{IsLowest, Nowhere}
use Rattle.region_tree.specs.declared.section.Section.{Section}
use Rattle.call_bounds.specs.declared.routines.Routine.{Routine}
use Rattle.call_bounds.specs.Build.{AreReached, IsRankOf, IsTable}
use Rattle.call_bounds.specs.CallRefusals.{IsListing, RecursionAt}
use Rattle.call_bounds.specs.Calls.{CallsLead, IsReached, range}
use Rattle.call_bounds.specs.Listing.{AreRanks, Listing, calls, function_at, function_count}
use Rattle.call_bounds.specs.Listing.{rank_at}
use Rattle.call_bounds.proofs.ReachedFunctions.{back-of, call-reaches, lead-of}
use Rattle.call_bounds.proofs.ReachedFunctions.{reached-row, row-of, row-reached}
use Rattle.call_bounds.proofs.Numbers.{heads-rise, reached-number, routine-of}
use Rattle.call_bounds.proofs.Functions.{lead-from}

is_or_not : (a b : ℕ) → (a ≡ b) ⊎ (a ≢ b)
is_or_not a b = grind arith

-- exactly the section and the functions that calls lead to from it are reached
pub reached-is : (l : Listing) (table led : List Bool) → IsListing (calls l) → IsTable l table →
    IsExact (function_count l) table 0 led → AreReached l (slice_set led 0 true)
reached-is l table led ok is e =
    record { count = length-set led 0 true ∙ e.count; exact = λ k h. go k h (is_or_not k 0) }
  where
    some : 0 < length led
    some = omega (arith, e.count)

    go : (k : ℕ) → k < function_count l → (k ≡ 0) ⊎ (k ≢ 0) →
        (is_met (slice_set led 0 true) k ≡ true) ↔ IsReached (calls l) (function_at l k)
    go k h (inl same) = (
      λ y. row-reached l table k is (inl same),
      λ y. subst (λ k. is_met (slice_set led 0 true) k ≡ true) (sym same)
          (get_or-set_same led 0 true false some),
    )
    go k h (inr other) =
        let at : is_met (slice_set led 0 true) k ≡ is_met led k =
        get_or-set_other led 0 k true false other in (
          λ y. row-reached l table k is (inr ((e.exact k).0 (sym at ∙ y))),
          λ y. elim (reached-row l table k ok is h y) [
            | inl same ↦ absurd (other same)
            | inr m ↦ at ∙ (e.exact k).1 m
          ],
        )

-- a reached function from which calls lead back to it
abbrev pub Recurs : Listing → List Bool → List Bool → ℕ → Type 0
Recurs l table reached k = (is_met reached k ≡ true) × IsCalled (function_count l) table k k

recursion-there : (l : Listing) (table reached : List Bool) (k : ℕ) (r : Routine) →
    IsTable l table → AreReached l reached → k < function_count l → function_at l k ≡ Some r →
    Recurs l table reached k → RecursionAt (calls l) r.head
recursion-there l table reached k r is are h e z =
    let known : IsReached (calls l) (function_at l k) = (are.exact k h).0 z.0 in
    let leads : CallsLead (calls l) (function_at l k) (function_at l k) = lead-of l table k is
    known z.1 in
    record { routine = r; again = subst (λ p. CallsLead (calls l) p p) e leads; address = refl }

recursion-back : (l : Listing) (table reached : List Bool) (a : ℕ) → IsListing (calls l) →
    IsTable l table → AreReached l reached → (h : RecursionAt (calls l) a) → (k : ℕ) × (0 < k)
    × (k < function_count l) × (function_at l k ≡ Some h.routine) × Recurs l table reached k
recursion-back l table reached a ok is are h =
    let known = lead-from (calls l) (Some h.routine) (Some h.routine) h.again in
    let z = reached-number l (Some h.routine) known in (
      z.0,
      some z.0 z.2,
      z.1,
      z.2,
      (
        (are.exact z.0 z.1).1 (subst (λ p. IsReached (calls l) p) (sym z.2) known),
        back-of l table z.0 h.routine ok is z.1 z.2 h.again,
      ),
    )
  where
    some : (k : ℕ) → function_at l k ≡ Some h.routine → 0 < k
    some k e = elim (let z : (k ≡ 0) ⊎ (0 < k) = grind arith in z) [
      | inl y ↦
          absurd
          (let x : None ≡ Some h.routine = subst (λ i. function_at l i ≡ Some h.routine) y e in cc)
      | inr lt ↦ lt
    ]

pub recursion-lowest : (l : Listing) (table reached : List Bool) (c : ℕ) (r : Routine) →
    IsListing (calls l) → IsTable l table → AreReached l reached →
    c < function_count l → function_at l c ≡ Some r → Recurs l table reached c →
    ((k : ℕ) → 0 < k → k < c → Recurs l table reached k → ⊥) →
    IsLowest (RecursionAt (calls l)) r.head
recursion-lowest l table reached c r ok is are h e here none = record {
  holds = recursion-there l table reached c r is are h e here;
  lowest = λ b z. go b z (recursion-back l table reached b ok is are z);
}
  where
    go : (b : ℕ) → (z : RecursionAt (calls l) b) → (k : ℕ) × (0 < k) × (k < function_count l)
        × (function_at l k ≡ Some z.routine) × Recurs l table reached k → r.head ≤ b
    go b z y = elim (let x : (y.0 < c) ⊎ ((y.0 ≡ c) ⊎ (c < y.0)) = grind arith in x) [
      | inl below ↦ absurd (none y.0 y.1 below y.4)
      | inr (inl same) ↦
          (let x : Some z.routine ≡ Some r = sym y.3 ∙ (ap (function_at l) same ∙ e) in
          let s : z.routine ≡ r = cc in
          let t = ap (λ (r : Routine). r.head) s in omega (arith, z.address))
      | inr (inr above) ↦
          (let x = heads-rise l ok c y.0 r z.routine above y.2 e y.3 in omega (arith, z.address))
    ]

-- the same, by the words of the function
pub recursion-found : (l : Listing) (table reached : List Bool) (c : ℕ) (s : Section) →
    IsListing (calls l) → IsTable l table → AreReached l reached → 0 < c →
    c < function_count l → s ≡ range (calls l) (function_at l c) → Recurs l table reached c →
    ((k : ℕ) → 0 < k → k < c → Recurs l table reached k → ⊥) →
    IsLowest (RecursionAt (calls l)) s.from
recursion-found l table reached c s ok is are some h e here none =
    let z = routine-of l c some h in
    subst (IsLowest (RecursionAt (calls l)))
    (sym (ap (λ (s : Section). s.from) e ∙ ap (λ p. (range (calls l) p).from) z.1))
    (recursion-lowest l table reached c z.0 ok is are h z.1 here none)

pub recursion-never : (l : Listing) (table reached : List Bool) (c : ℕ) →
    IsListing (calls l) → IsTable l table → AreReached l reached → function_count l ≤ c →
    ((k : ℕ) → 0 < k → k < c → Recurs l table reached k → ⊥) → Nowhere (RecursionAt (calls l))
recursion-never l table reached c ok is are all none a z =
    let y = recursion-back l table reached a ok is are z in none y.0 y.1 (omega (arith, y.2)) y.4

-- the marked functions and the others
count-all : (bs : List Bool) → count_by (λ b. b) bs + unmet_count bs ≡ length bs
count-all [] = refl
count-all (true ∷ bs) =
    let h = count-all bs in
    let a = sum_by-cons (λ b. cond b 0 1) true bs in
    let c = sum_by-cons (λ (b : Bool). cond {A = ℕ} b 1 0) true bs in omega arith
count-all (false ∷ bs) =
    let h = count-all bs in
    let a = sum_by-cons (λ b. cond b 0 1) false bs in
    let c = sum_by-cons (λ (b : Bool). cond {A = ℕ} b 1 0) false bs in omega arith

rank-less : (n : ℕ) (table : List Bool) (j k rj rk : ℕ) → IsRankOf n table j rj →
    IsRankOf n table k rk → HasCall n table j k → (IsCalled n table k k → ⊥) → rk < rj
rank-less n table j k rj rk a b call once =
    let less = rank-falls n table j k a.0 b.0 a.1 b.1 call once in
    let x = count-all a.0 in let y = count-all b.0 in
    omega (arith, a.1.count, b.1.count, a.2, b.2)

-- the ranks of the functions below c
pub record AreRanksTo (l : Listing) (table : List Bool) (c : ℕ) (ranks : List ℕ) : Type 0 where
  pub count : length ranks ≡ c
  pub each : (k : ℕ) → k < c → IsRankOf (function_count l) table k (rank_at ranks k)

pub ranks-start : (l : Listing) (table : List Bool) → AreRanksTo l table 0 []
ranks-start l table = record { count = refl; each = λ k h. absurd (omega arith) }

pub ranks-next : (l : Listing) (table : List Bool) (c rank : ℕ) (ranks ranks' : List ℕ) →
    ranks' ≡ ranks ++ rank ∷ [] → IsRankOf (function_count l) table c rank →
    AreRanksTo l table c ranks → AreRanksTo l table (c + 1) ranks'
ranks-next l table c rank ranks ranks' is r a =
    subst (AreRanksTo l table (c + 1)) (sym is) (record {
      count =
          length-append ranks (rank ∷ [])
          ∙ (let z = a.count in let y : length ranks + 1 ≡ c + 1 = omega arith in y);
      each = λ k h. go k (let z : (k < c) ⊎ (k ≡ c) = grind arith in z);
    })
  where
    go : (k : ℕ) → (k < c) ⊎ (k ≡ c) →
        IsRankOf (function_count l) table k (rank_at (ranks ++ rank ∷ []) k)
    go k (inl below) =
        subst (IsRankOf (function_count l) table k)
        (sym (get_or-append ranks (rank ∷ []) 0 k (omega (arith, a.count)))) (a.each k below)
    go k (inr same) =
        let at : rank_at (ranks ++ rank ∷ []) k ≡ rank = ap (λ i. rank_at (ranks ++ rank ∷ []) i)
        (let z = a.count in let y : k ≡ length ranks + 0 = omega arith in y)
        ∙ get_or-append-add ranks (rank ∷ []) 0 0 in
        subst (IsRankOf (function_count l) table k) (sym at)
        (subst (λ i. IsRankOf (function_count l) table i rank) (sym same) r)

pub ranks-all : (l : Listing) (table : List Bool) (c : ℕ) (ranks : List ℕ) →
    IsListing (calls l) → IsTable l table → Nowhere (RecursionAt (calls l)) → c ≡ function_count l →
    AreRanksTo l table c ranks → AreRanks l ranks
ranks-all l table c ranks ok is never all a = record {
  count = a.count ∙ all;
  few =
      λ k h. (let z = a.each k (omega arith) in
      let y = count_by-le-length (λ b. b) z.0 in
      omega (arith, z.1.count, z.2));
  rise =
      λ j k hj hk r d. rank-less (function_count l) table j k (rank_at ranks j) (rank_at ranks k)
      (a.each j (omega arith)) (a.each k (omega arith)) (row-of l table j k is hj hk d)
      (once k hk (call-reaches (calls l) (function_at l j) (function_at l k) r d) d.to);
}
  where
    once : {r : Routine} → (k : ℕ) → k < function_count l → IsReached (calls l) (function_at l k) →
        function_at l k ≡ Some r → IsCalled (function_count l) table k k → ⊥
    once {r} k h known e m = never r.head (record {
      routine = r;
      again = subst (λ p. CallsLead (calls l) p p) e (lead-of l table k is known m);
      address = refl;
    })
