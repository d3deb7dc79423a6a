-- Routines that rise, and one more after them.
use Rattle.std.proofs.Common.{◌≡◌, inl, inr, ◌≤◌, ◌<◌, ℕ, true, List, [], ◌∷◌, ◌++◌, length}
use Rattle.std.proofs.Common.{Option, Some, None, refl, subst, arith, length-append, Contains}
use Rattle.std.specs.Prelude.{slice_index_or}
use Rattle.std.proofs.lemmas.Bool.Decides.{nat_tests}
use Rattle.std.proofs.lemmas.List.Elements.{Contains-append_cases, Contains-append_right}
use Rattle.region_guard.specs.Regions.{IsSize}
use Rattle.call_bounds.specs.Routines.{AreRoutines, IsRoutine, Rise}
use Rattle.call_bounds.specs.RoutinesFile.{is_above, is_placed}
use Rattle.call_bounds.specs.declared.routines.Routine.{Routine}

-- they end at this one, if there is any
abbrev pub EndAt : Option Routine → List Routine → Type 0
EndAt None xs = (t : Routine) → Contains xs t → ⊥
EndAt (Some r) xs = (t : Routine) → Contains xs t → t.last ≤ r.last

one-is : (x t : Routine) → Contains (x ∷ []) t → x ≡ t
one-is x t (i, below, is) =
    (let z : i ≡ 0 = omega arith in subst (λ k. slice_index_or (x ∷ []) k t ≡ t) z is)

placed : (size : ℕ) (r : Routine) → IsSize size → is_placed size r ≡ true → IsRoutine r
placed size r s h = record {
  head_aligned = grind (arith, nat_tests);
  last_aligned = grind (arith, nat_tests);
  order = grind (arith, nat_tests);
  end = grind (arith, nat_tests);
}

Rise-append : (xs : List Routine) (r : Routine) → Rise xs →
    ((t : Routine) → Contains xs t → t.last < r.head) → Rise (xs ++ r ∷ [])
Rise-append [] r rise below = ((λ t c. absurd (let z = c.1 in omega (arith, z))), tt)
Rise-append (x ∷ xs) r rise below = (
  λ t c. elim (Contains-append_cases xs (r ∷ []) t c) [
    | inl a ↦ rise.0 t a
    | inr b ↦
        subst (λ (y : Routine). x.last < y.head) (one-is r t b) (below x (0, omega arith, refl))
  ],
  Rise-append xs r rise.1 (λ t c. below t (Contains-append_right (x ∷ []) xs t c)),
)

above-all : (before : Option Routine) (xs : List Routine) (r t : Routine) → EndAt before xs →
    is_above before r ≡ true → Contains xs t → t.last < r.head
above-all None xs r t end above c = absurd (end t c)
above-all (Some b) xs r t end above c =
    let le : t.last ≤ b.last = end t c in
    let lt : b.last < r.head = grind (arith, nat_tests) in
    omega (arith, le, lt)

pub one-more : (size : ℕ) (before : Option Routine) (xs : List Routine) (r : Routine) →
    IsSize size → AreRoutines xs → EndAt before xs → length xs < 64 → is_placed size r ≡ true →
    is_above before r ≡ true → AreRoutines (xs ++ r ∷ [])
one-more size before xs r s are end few is above = record {
  few = simp length-append (omega arith);
  each = λ t c. elim (Contains-append_cases xs (r ∷ []) t c) [
    | inl a ↦ are.each t a
    | inr b ↦ subst IsRoutine (one-is r t b) (placed size r s is)
  ];
  rise = Rise-append xs r are.rise (λ t c. above-all before xs r t end above c);
}

pub ends-there : (size : ℕ) (before : Option Routine) (xs : List Routine) (r : Routine) →
    EndAt before xs → is_placed size r ≡ true → is_above before r ≡ true →
    EndAt (Some r) (xs ++ r ∷ [])
ends-there size before xs r end is above t c = elim (Contains-append_cases xs (r ∷ []) t c) [
  | inl a ↦
      (let lt : t.last < r.head = above-all before xs r t end above a in
      let le : r.head ≤ r.last = grind (arith, nat_tests) in omega (arith, lt, le))
  | inr b ↦ subst (λ (y : Routine). y.last ≤ r.last) (one-is r t b) (omega arith)
]
