-- A path to a word of a loop is a path to the loop's head, and then a path of the loop's own part.
use Rattle.std.proofs.Common.{◌≡◌, ℕ, ◌+◌, ◌<◌, ◌≤◌, ◌⊎◌, refl}
use Rattle.std.proofs.Common.{arith, inl, inr, ap, subst, sym, ◌∙◌}
use Rattle.bound_calc.proofs.BestLaws.{same}
use Rattle.bound_calc.proofs.Counters.{counted-other, counted-≤}
use Rattle.bound_calc.specs.Context.{IsNested, IsScope, May, Net, Scope, Walk, body}
use Rattle.fp_setup.specs.declared.loop_list.LoopSetup.{LoopSetup}
use Rattle.region_tree.specs.Graph.{Holds, Inside}
use Rattle.region_tree.specs.Walk.{counter_after}
use Rattle.bound_calc.specs.Context.Walk.{start, step}

pub record Split (g : Net) (s : Scope) (j : LoopSetup) (p n v q c : ℕ)
    (k : LoopSetup → ℕ) : Type 0 where
  pub steps_1 : ℕ
  pub steps_2 : ℕ
  pub at : ℕ
  pub cost_1 : ℕ
  pub cost_2 : ℕ
  pub counters_1 : LoopSetup → ℕ
  pub counters_2 : LoopSetup → ℕ
  pub first : Walk g s p steps_1 j.head at cost_1 counters_1
  pub rest : Walk g (body g j) at steps_2 v q cost_2 counters_2
  pub steps : steps_1 + steps_2 ≡ n
  pub cost : c ≡ cost_1 + cost_2
  pub counter : k j ≡ counters_1 j
  pub inner : (i : LoopSetup) → g.loop i → Inside j i → counters_2 i ≤ k i

pub at_or_above : (a b : ℕ) → a ≤ b → (b ≡ a) ⊎ (a < b)
at_or_above a b h = grind arith

-- at the head itself the second path has no steps
at_head : {g : Net} {s : Scope} (j : LoopSetup) {p n v q c : ℕ} {k : LoopSetup → ℕ} → g.own q →
    Walk g s p n v q c k → v ≡ j.head → Split g s j p n v q c k
at_head {g} {s} j {p} {n} {v} {q} {c} {k} o w e = record {
  steps_1 = n;
  steps_2 = 0;
  at = q;
  cost_1 = c;
  cost_2 = 0;
  counters_1 = k;
  counters_2 = λ _. 0;
  first = subst (λ u. Walk g s p n u q c k) e w;
  rest = subst (λ u. Walk g (body g j) q 0 u q 0 (λ _. 0)) (sym e) (start o);
  steps = omega arith;
  cost = omega arith;
  counter = refl;
  inner = λ i a b. omega arith;
}

-- a step inside a loop may be made in the loop's own part
stays_inside : {g : Net} {s : Scope} (j : LoopSetup) → IsNested g → IsScope g s → s.loops j →
    (u v : ℕ) → j.head < v → v ≤ j.last → May s u v → May (body g j) u v
stays_inside j t part h u v a b (inl l) = inl l
stays_inside {g} {s} j t part h u v a b (inr (i, known, e, held)) =
    go (t.nested j i (part.known j h) (part.known i known) (omega arith) (omega arith))
  where
    go : (j ≡ i) ⊎ (Inside j i ⊎ Inside i j) → May (body g j) u v
    go (inl same) = let heads : j.head ≡ i.head = ap (λ x. x.head) same in absurd (omega arith)
    go (inr (inl inside)) = inr (i, (part.known i known, inside), e, held)
    go (inr (inr outside)) = absurd (omega arith)

pub split : {g : Net} {s : Scope} (j : LoopSetup) {p n v q c : ℕ} {k : LoopSetup → ℕ} → IsNested g →
    IsScope g s → s.loops j → Walk g s p n v q c k → Holds j v → Split g s j p n v q c k
split j t part h (start o) held = let e = (part.within j h).0 in at_head j o (start o) (omega arith)
split {g} {s} j {p = p} t part h (step {n} {u} {q} {c} {d} {v} {r} {k} w a high may f) held =
    go (λ held_u. split j t part h w held_u) (t.entered a j (part.known j h) held)
    (at_or_above j.head v held.0)
  where
    whole : Walk g s p (n + 1) v r (c + d) (λ i. counter_after u v i (k i))
    whole = step w a high may f

    inside : Holds j u → Split g s j p n u q c k → j.head < v →
        Split g s j p (n + 1) v r (c + d) (λ i. counter_after u v i (k i))
    inside held_u x lt = record {
      steps_1 = x.steps_1;
      steps_2 = x.steps_2 + 1;
      at = x.at;
      cost_1 = x.cost_1;
      cost_2 = x.cost_2 + d;
      counters_1 = x.counters_1;
      counters_2 = λ i. counter_after u v i (x.counters_2 i);
      first = x.first;
      rest =
          step x.rest a held.1 (stays_inside j t part h u v lt held.1 may)
          (λ i known. let before : counter_after u v i (x.counters_2 i) ≤ counter_after u v i
          (k i) = counted-≤ u v i (x.counters_2 i) (k i) (x.inner i known.0 known.1) in
          let kept : counter_after u v i (k i) ≤ i.limit = f i
          (part.closed j i h known.0 known.1) in omega arith);
      steps = omega (arith, x.steps);
      cost = omega (arith, x.cost);
      counter = counted-other u v j (k j) (omega arith) ∙ x.counter;
      inner = λ i known in_j. counted-≤ u v i (x.counters_2 i) (k i) (x.inner i known in_j);
    }

    go : (Holds j u → Split g s j p n u q c k) →
        (Holds j u) ⊎ (v ≡ j.head) → (v ≡ j.head) ⊎ (j.head < v) →
        Split g s j p (n + 1) v r (c + d) (λ i. counter_after u v i (k i))
    go before x (inl e) = at_head j (t.lands a) whole e
    go before (inr e) (inr lt) = at_head j (t.lands a) whole e
    go before (inl held_u) (inr lt) = inside held_u (before held_u) lt
