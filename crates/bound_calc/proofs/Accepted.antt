-- An accepted tree meets the requirements of the theory of paths.
use Rattle.std.proofs.Common.{◌≡◌, ◌≢◌, ℕ, ◌<◌, ◌≤◌, ◌⊎◌, refl, arith, inl, inr}
use Rattle.std.proofs.Common.{ap, sym, subst, ◌∙◌, List, [], ◌∷◌, length, Contains}
use Rattle.std.proofs.lemmas.List.{get_or_default}
use Rattle.std.proofs.lemmas.List.Sums.{length-filter, count_by-le-length}
use Rattle.slot_table.specs.Nibbles.{nibbles}
use Rattle.slot_table.specs.Frame.{frame, is_used}
use Rattle.bound_calc.proofs.BestLaws.{same}
use Rattle.bound_calc.proofs.Embed.{is_or_not}
use Rattle.bound_calc.proofs.Outermost.{cons-cases, cons-first, cons-rest}
use Rattle.bound_calc.specs.Bound.{course}
use Rattle.bound_calc.specs.Section.{IsAccepted, IsModest}
use Rattle.fp_setup.specs.declared.loop_list.LoopSetup.{LoopSetup}
use Rattle.region_tree.specs.Graph.{Edge, Graph, Holds, Inside, Lies, Reachable}
use Rattle.region_tree.specs.Refusals.{IsAllowed}
use Rattle.region_tree.specs.Nesting.{Crosses, depth, loop_at}
use Rattle.region_tree.specs.Tree.{IsTree, Tree, graph, word_at}
use Rattle.region_tree.proofs.EdgeLaws.{lag-short}

-- a loop of the list is the one at its index
at-index : (loops : List LoopSetup) (j : LoopSetup) (h : Contains loops j) → loop_at loops h.0 ≡ j
at-index loops j h = get_or_default loops h.0 (record { head = 0; last = 0; limit = 0 }) j h.1 ∙ h.2

pub inside-or : (j i : LoopSetup) → (Inside j i) ⊎ (Inside j i → ⊥)
inside-or j i =
    go (let z : (j.head < i.head) ⊎ (i.head ≤ j.head) = grind arith in z)
    (let z : (i.last ≤ j.last) ⊎ (j.last < i.last) = grind arith in z)
  where
    go : (j.head < i.head) ⊎ (i.head ≤ j.head) → (i.last ≤ j.last) ⊎ (j.last < i.last) →
        (Inside j i) ⊎ (Inside j i → ⊥)
    go (inl a) (inl b) = inl (a, b)
    go (inl a) (inr b) = inr (λ h. omega arith)
    go (inr a) b = inr (λ h. omega arith)

pub holds-or : (j : LoopSetup) (u : ℕ) → (Holds j u) ⊎ (Holds j u → ⊥)
holds-or j u =
    go (let z : (j.head ≤ u) ⊎ (u < j.head) = grind arith in z)
    (let z : (u ≤ j.last) ⊎ (j.last < u) = grind arith in z)
  where
    go : (j.head ≤ u) ⊎ (u < j.head) → (u ≤ j.last) ⊎ (j.last < u) → (Holds j u) ⊎ (Holds j u → ⊥)
    go (inl a) (inl b) = inl (a, b)
    go (inl a) (inr b) = inr (λ h. omega arith)
    go (inr a) b = inr (λ h. omega arith)

-- a loop whose head is v and that holds u, if there is one
abbrev Returns : List LoopSetup → ℕ → ℕ → Type 0
Returns loops u v =
    ((j : LoopSetup) × Contains loops j × (v ≡ j.head) × Holds j u)
    ⊎ ((j : LoopSetup) → Contains loops j → v ≡ j.head → Holds j u → ⊥)

returns : (loops : List LoopSetup) (u v : ℕ) → Returns loops u v
returns [] u v = inr (λ j h e held. omega (arith, h.1))
returns (y ∷ ys) u v = go (returns ys u v) (is_or_not v y.head) (holds-or y u)
  where
    none : ((j : LoopSetup) → Contains ys j → v ≡ j.head → Holds j u → ⊥) →
        ((v ≡ y.head) → Holds y u → ⊥) → Returns (y ∷ ys) u v
    none rest this = inr (λ j h e held. elim (cons-cases y ys j h) [
      | inl same ↦
          this (e ∙ sym (ap (λ (l : LoopSetup). l.head) same))
          (subst (λ (l : LoopSetup). Holds l u) (sym same) held)
      | inr later ↦ rest j later e held
    ])

    go : Returns ys u v → (v ≡ y.head) ⊎ (v ≢ y.head) → (Holds y u) ⊎ (Holds y u → ⊥) →
        Returns (y ∷ ys) u v
    go (inl (j, known, e, held)) a b = inl (j, cons-rest y ys j known, e, held)
    go (inr rest) (inl e) (inl held) = inl (y, cons-first y ys, e, held)
    go (inr rest) (inl e) (inr out) = none rest (λ e held. out held)
    go (inr rest) (inr other) b = none rest (λ e held. other e)

-- a graph without a cause of refusal, whose loops lie in it
pub accepted-of : (g : Graph) → ((j : LoopSetup) → Contains g.loops j →
    (g.from ≤ j.head) × (j.head ≤ j.last) × (j.last < g.to)) → IsAllowed g → IsAccepted g
accepted-of g ordered is = record {
  ordered = ordered;
  nested =
      λ j i a b low high.
      nest j i a b low high (let z : (a.0 < b.0) ⊎ ((a.0 ≡ b.0) ⊎ (b.0 < a.0)) = grind arith in z);
  entered = λ u e j r a b held. enter u e j r a b held (holds-or j u) (is_or_not e.to j.head);
  back = λ u e r a l le. back u e r a l le (returns g.loops u e.to);
}
  where
    crossed : (j i : LoopSetup) (a : Contains g.loops j) (b : Contains g.loops i) → a.0 < b.0 →
        j.head ≤ i.last → i.head ≤ j.last → (Inside j i → ⊥) → (Inside i j → ⊥) → ⊥
    crossed j i a b order low high out out' =
        let crosses : Crosses (loop_at g.loops a.0) (loop_at g.loops b.0) =
        subst (λ k. Crosses k (loop_at g.loops b.0)) (sym (at-index g.loops j a))
        (subst (λ k. Crosses j k) (sym (at-index g.loops i b))
        (record { below = low; above = high; apart = out; apart' = out' })) in
        is.nesting (loop_at g.loops b.0).head (inl (record {
          earlier = a.0;
          later = b.0;
          order = order;
          within = b.1;
          crosses = crosses;
          address = refl;
        }))

    nest : (j i : LoopSetup) (a : Contains g.loops j) (b : Contains g.loops i) →
        j.head ≤ i.last → i.head ≤ j.last → (a.0 < b.0) ⊎ ((a.0 ≡ b.0) ⊎ (b.0 < a.0)) →
        (j ≡ i) ⊎ (Inside j i ⊎ Inside i j)
    nest j i a b low high (inr (inl same)) =
        inl (sym (at-index g.loops j a) ∙ (ap (loop_at g.loops) same ∙ at-index g.loops i b))
    nest j i a b low high (inl order) = inr (go (inside-or j i) (inside-or i j))
      where
        go : (Inside j i) ⊎ (Inside j i → ⊥) → (Inside i j) ⊎ (Inside i j → ⊥) →
            Inside j i ⊎ Inside i j
        go (inl in_j) c = inl in_j
        go (inr out) (inl in_i) = inr in_i
        go (inr out) (inr out') = absurd (crossed j i a b order low high out out')
    nest j i a b low high (inr (inr order)) = inr (go (inside-or j i) (inside-or i j))
      where
        go : (Inside j i) ⊎ (Inside j i → ⊥) → (Inside i j) ⊎ (Inside i j → ⊥) →
            Inside j i ⊎ Inside i j
        go (inl in_j) c = inl in_j
        go (inr out) (inl in_i) = inr in_i
        go (inr out) (inr out') = absurd (crossed i j b a order high low out' out)

    enter : (u : ℕ) (e : Edge) (j : LoopSetup) → Reachable g u → Contains (g.edges u) e →
        Contains g.loops j → Holds j e.to → (Holds j u) ⊎ (Holds j u → ⊥) →
        (e.to ≡ j.head) ⊎ (e.to ≢ j.head) → (Holds j u) ⊎ (e.to ≡ j.head)
    enter u e j r a b held (inl held_u) d = inl held_u
    enter u e j r a b held (inr out) (inl head) = inr head
    enter u e j r a b held (inr out) (inr other) = absurd (is.nesting j.head (inr (inr (record {
      entered = j;
      known = b;
      from = u;
      by = e;
      reached = r;
      edge = a;
      inner = held;
      outer = out;
      other = other;
      address = refl;
    }))))

    back : (u : ℕ) (e : Edge) → Reachable g u → Contains (g.edges u) e → Lies g e.to → e.to ≤ u →
        Returns g.loops u e.to → (j : LoopSetup) × Contains g.loops j × (e.to ≡ j.head) × Holds j u
    back u e r a l le (inl found) = found
    back u e r a l le (inr none) =
        absurd (is.unbounded u
        (record { by = e; reached = r; edge = a; inside = l; down = le; unbounded = none }))

pub accepted : (t : Tree) → IsTree t → IsAccepted (graph t)
accepted t is =
    accepted-of (graph t) (λ j h.
    ((is.draft.counting j h).0, (is.draft.loops j h).ordered, (is.draft.counting j h).1)) is.allowed

-- a frame has at most eight slots
pub frame-short : (slots : ℕ) → length (frame slots) ≤ 8
unfolding frame nibbles
frame-short slots =
    let z = length-filter is_used (nibbles slots) in
    let y = count_by-le-length is_used (nibbles slots) in
    let eight : length (nibbles slots) ≡ 8 = refl in omega arith

pub modest : (t : Tree) (slots thread : ℕ) → IsTree t → IsModest (course t slots thread)
modest t slots thread is = record {
  frame = frame-short slots;
  lags = λ u e h. lag-short (word_at t u) u e h;
  bounds = λ j h. (is.draft.loops j h).limited;
  depths =
      λ j h. shallow j h (let z : (depth t.loops j ≤ 4) ⊎ (4 < depth t.loops j) = grind arith in z);
  end = is.draft.section.end;
  order = is.draft.section.order;
}
  where
    shallow : (j : LoopSetup) → Contains t.loops j → (depth t.loops j ≤ 4) ⊎ (4 < depth t.loops j) →
        depth t.loops j ≤ 4
    shallow j h (inl few) = few
    shallow j h (inr deep) =
        absurd (is.allowed.nesting j.head
        (inr (inl (record { deep = j; known = h; depth = deep; address = refl }))))
