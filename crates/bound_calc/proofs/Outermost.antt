-- Among the loops that pass a test, one whose head is lowest; and how deep loops lie.
use Rattle.std.proofs.Common.{◌≡◌, ℕ, ◌≤◌, ◌⊎◌, refl, arith, inl, inr, ap, subst}
use Rattle.std.proofs.Common.{◌∙◌, Contains, List, [], ◌∷◌, slice_index_or}
use Rattle.std.proofs.Common.{Bool, true, false, ◌&&◌, nat_le, nat_lt}
use Rattle.std.proofs.lemmas.List.Elements.{Contains-append_right, Contains-append_cases}
use Rattle.std.proofs.lemmas.Bool.Decides.{nat_tests}
use Rattle.bound_calc.proofs.BestLaws.{same}
use Rattle.bound_calc.proofs.Limits.{Outer}
use Rattle.bound_calc.specs.Context.{Scope, body}
use Rattle.bound_calc.specs.Section.{field, net, whole}
use Rattle.fp_setup.specs.declared.loop_list.LoopSetup.{LoopSetup}
use Rattle.region_tree.specs.Walk.{Course}

one-is : {X : Type 0} (y x : X) → Contains (y ∷ []) x → y ≡ x
one-is y x h =
    let z : h.0 ≡ 0 = omega (arith, h.1) in subst (λ i. slice_index_or (y ∷ []) i x ≡ x) z h.2

pub cons-cases : {X : Type 0} (y : X) (ys : List X) (x : X) → Contains (y ∷ ys) x →
    (y ≡ x) ⊎ Contains ys x
cons-cases y ys x h =
    elim (Contains-append_cases (y ∷ []) ys x h) [ inl a ↦ inl (one-is y x a) | inr b ↦ inr b ]

pub cons-first : {X : Type 0} (y : X) (ys : List X) → Contains (y ∷ ys) y
cons-first y ys = (0, omega arith, refl)

pub cons-rest : {X : Type 0} (y : X) (ys : List X) (x : X) → Contains ys x → Contains (y ∷ ys) x
cons-rest y ys x h = Contains-append_right (y ∷ []) ys x h

abbrev Lowest : (LoopSetup → Bool) → List LoopSetup → Type 0
Lowest p xs =
    ((i : LoopSetup) → Contains xs i → p i ≡ true → ⊥) ⊎ ((j : LoopSetup) × Contains xs j
    × (p j ≡ true) × ((i : LoopSetup) → Contains xs i → p i ≡ true → j.head ≤ i.head))

pub lowest : (p : LoopSetup → Bool) (xs : List LoopSetup) → Lowest p xs
lowest p [] = inl (λ i h e. absurd (omega (arith, h.1)))
lowest p (y ∷ ys) = go (lowest p ys) (p y) refl
  where
    go : Lowest p ys → (b : Bool) → p y ≡ b → Lowest p (y ∷ ys)
    go (inl none) false e = inl (λ i h k. elim (cons-cases y ys i h) [
      | inl same ↦ (let z : p y ≡ true = ap p same ∙ k in cc)
      | inr rest ↦ none i rest k
    ])
    go (inl none) true e = inr (
      y,
      cons-first y ys,
      e,
      λ i h k. elim (cons-cases y ys i h) [
        | inl same ↦ (let z : y.head ≡ i.head = ap (λ l. l.head) same in omega arith)
        | inr rest ↦ absurd (none i rest k)
      ],
    )
    go (inr (j, known, pj, least)) false e = inr (
      j,
      cons-rest y ys j known,
      pj,
      λ i h k. elim (cons-cases y ys i h) [
        | inl same ↦ absurd (let z : p y ≡ true = ap p same ∙ k in cc)
        | inr rest ↦ least i rest k
      ],
    )
    go (inr (j, known, pj, least)) true e =
        pick (let z : (y.head ≤ j.head) ⊎ (j.head ≤ y.head) = grind arith in z)
      where
        pick : (y.head ≤ j.head) ⊎ (j.head ≤ y.head) → Lowest p (y ∷ ys)
        pick (inl le) = inr (
          y,
          cons-first y ys,
          e,
          λ i h k. elim (cons-cases y ys i h) [
            | inl same ↦ (let z : y.head ≡ i.head = ap (λ l. l.head) same in omega arith)
            | inr rest ↦ (let z : j.head ≤ i.head = least i rest k in omega arith)
          ],
        )
        pick (inr le) = inr (
          j,
          cons-rest y ys j known,
          pj,
          λ i h k. elim (cons-cases y ys i h) [
            | inl same ↦ (let z : y.head ≡ i.head = ap (λ l. l.head) same in omega arith)
            | inr rest ↦ least i rest k
          ],
        )

-- a word's outermost loop, in a part that a test describes
pub outermost : (xs : List LoopSetup) (s : Scope) (p : LoopSetup → Bool) →
    ((i : LoopSetup) → s.loops i → Contains xs i × (p i ≡ true)) →
    ((i : LoopSetup) → Contains xs i → p i ≡ true → s.loops i) → (v : ℕ) → Outer s v
outermost xs s p there back v = go (lowest test xs)
  where
    test : LoopSetup → Bool
    test i = p i && (nat_le i.head v && nat_le v i.last)

    passes : (i : LoopSetup) → s.loops i → i.head ≤ v → v ≤ i.last → test i ≡ true
    passes i h a b = let z = there i h in let e = z.1 in grind (arith, nat_tests)

    is : (i : LoopSetup) → test i ≡ true → (p i ≡ true) × (i.head ≤ v) × (v ≤ i.last)
    is i e = (grind (arith, nat_tests), grind (arith, nat_tests), grind (arith, nat_tests))

    go : Lowest test xs → Outer s v
    go (inl none) = inl (λ j h held. none j (there j h).0 (passes j h held.0 held.1))
    go (inr (j, known, e, least)) =
        let z = is j e in
        inr (
          j,
          back j known z.0,
          (z.1, z.2),
          λ i h around.
              let w = least i (there i h).0 (passes i h (omega arith) (omega arith)) in omega arith,
        )

pub outer-whole : (x : Course) (v : ℕ) → Outer (whole (field x)) v
outer-whole x =
    outermost x.graph.loops (whole (field x)) (λ i. true) (λ i h. (h, refl)) (λ i h e. h)

pub outer-body : (x : Course) (j : LoopSetup) (v : ℕ) → Outer (body (net (field x)) j) v
outer-body x j =
    outermost x.graph.loops (body (net (field x)) j) (λ i. nat_lt j.head i.head
    && nat_le i.last j.last) (λ i h. (h.0, (let a = h.1 in grind (arith, nat_tests))))
    (λ i h e. (h, (grind (arith, nat_tests), grind (arith, nat_tests))))
