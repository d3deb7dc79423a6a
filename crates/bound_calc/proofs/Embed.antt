-- A path to a loop's head and then a path of the loop's own part form one path.
use Rattle.std.proofs.Common.{◌≡◌, ℕ, ◌+◌, ◌≤◌, ◌⊎◌, ◌≢◌, refl}
use Rattle.std.proofs.Common.{arith, inl, inr, ap, subst, sym, ◌∙◌}
use Rattle.bound_calc.proofs.BestLaws.{same}
use Rattle.bound_calc.proofs.Counters.{above, counted-in, counted-other, kept}
use Rattle.bound_calc.specs.Context.{IsNested, IsScope, May, Net, Scope, Walk, body}
use Rattle.fp_setup.specs.declared.loop_list.LoopSetup.{LoopSetup}
use Rattle.region_tree.specs.Graph.{Holds, Inside}
use Rattle.region_tree.specs.Walk.{counter_after}
use Rattle.bound_calc.specs.Context.Walk.{start, step}

pub record Embedded (g : Net) (s : Scope) (j : LoopSetup) (p v q c : ℕ)
    (k k' : LoopSetup → ℕ) : Type 0 where
  pub steps : ℕ
  pub cost : ℕ
  pub counters : LoopSetup → ℕ
  pub walk : Walk g s p steps v q cost counters
  pub cost_is : cost ≡ c
  pub counter : counters j ≡ k j
  pub same : (i : LoopSetup) → g.loop i → Inside j i → Holds i v → counters i ≡ k' i

-- two loops with one head are one
pub same_head : {g : Net} → IsNested g → (j i : LoopSetup) → g.loop j → g.loop i →
    j.head ≡ i.head → j ≡ i
same_head t j i a b e =
    go
    (t.nested j i a b (let o = t.ordered i b in omega arith) (let o = t.ordered j a in omega arith))
  where
    go : (j ≡ i) ⊎ (Inside j i ⊎ Inside i j) → j ≡ i
    go (inl same) = same
    go (inr (inl inside)) = absurd (omega arith)
    go (inr (inr outside)) = absurd (omega arith)

pub is_or_not : (a b : ℕ) → (a ≡ b) ⊎ (a ≢ b)
is_or_not a b = grind arith

-- a loop's own part is a part
pub body-part : {g : Net} → IsNested g → (j : LoopSetup) → g.loop j → IsScope g (body g j)
body-part t j known = record {
  known = λ i a. a.0;
  within = λ i a. (omega arith, a.1.1);
  closed = λ i l a b inside. (b, (omega arith, omega arith));
}

pub embed : {g : Net} {s : Scope} (j : LoopSetup) {p n x a : ℕ} {k : LoopSetup → ℕ}
    {m v q b : ℕ} {k' : LoopSetup → ℕ} → IsNested g → IsScope g s → s.loops j →
    Walk g s p n j.head x a k → Walk g (body g j) x m v q b k' → Embedded g s j p v q (a + b) k k'
embed j {p} {n} {x = x} {a = a} {k = k} t part h w (start o) = record {
  steps = n;
  cost = a;
  counters = k;
  walk = w;
  cost_is = omega arith;
  counter = refl;
  same = λ i known inside held. absurd (omega arith);
}
embed {g} {s} j {p} {n} {x = x} {a = a} {k = k} t part h w
    (step {n = m} {u} {q} {c} {d} {v} {r} {k = k'} rest arc high may f) =
    go (embed j t part h w rest)
  where
    allowed : May (body g j) u v → May s u v
    allowed (inl l) = inl l
    allowed (inr (i, known, e, held)) = inr (i, part.closed j i h known.0 known.1, e, held)

    low : j.head ≤ u
    low = above (body-part t j (part.known j h)) rest

    not_head : May (body g j) u v → v ≢ j.head
    not_head (inl l) e = let from : j.head ≤ u = low in omega arith
    not_head (inr (i, known, e, held)) f = omega arith

    held_by : (i l : LoopSetup) → g.loop i → g.loop l → v ≡ i.head → v ≡ l.head →
        Holds l u → Holds i u
    held_by i l known_i known_l e e' held =
        subst (λ l. Holds l u) (same_head t l i known_l known_i (omega arith)) held

    bounded : (i : LoopSetup) → s.loops i → (n : ℕ) → n ≤ i.limit →
        (Inside j i → Holds i u → n ≡ k' i) → May (body g j) u v → (v ≡ i.head) ⊎ (v ≢ i.head) →
        counter_after u v i n ≤ i.limit
    bounded i known n le same may (inr other) = let e = counted-other u v i n other in omega arith
    bounded i known n le same (inl up) (inl e) = let z = counted-in u v i n e up in omega arith
    bounded i known n le same (inr (l, known_l, e', held)) (inl e) =
        let is : l ≡ i = same_head t l i known_l.0 (part.known i known) (omega arith) in
        let inside : Inside j i = subst (λ l. Inside j l) is known_l.1 in
        let x : n ≡ k' i = same inside (subst (λ l. Holds l u) is held) in
        let y : counter_after u v i (k' i) ≤ i.limit = f i (part.known i known, inside) in
        subst (λ n. counter_after u v i n ≤ i.limit) (sym x) y

    agrees : (i : LoopSetup) → g.loop i → (n : ℕ) → (Holds i u → n ≡ k' i) →
        (Holds i u) ⊎ (v ≡ i.head) → May (body g j) u v →
        counter_after u v i n ≡ counter_after u v i (k' i)
    agrees i known n same (inl held) may = ap (counter_after u v i) (same held)
    agrees i known n same (inr e) (inl up) =
        counted-in u v i n e up ∙ sym (counted-in u v i (k' i) e up)
    agrees i known n same (inr e) (inr (l, known_l, e', held)) =
        ap (counter_after u v i) (same (held_by i l known known_l.0 e e' held))

    go : Embedded g s j p u q (a + c) k k' →
        Embedded g s j p v r (a + (c + d)) k (λ i. counter_after u v i (k' i))
    go y = record {
      steps = y.steps + 1;
      cost = y.cost + d;
      counters = λ i. counter_after u v i (y.counters i);
      walk =
          step y.walk arc (let last : j.last ≤ s.high = (part.within j h).1 in omega arith)
          (allowed may) (λ i known. bounded i known (y.counters i) (kept y.walk i known)
          (λ inside held. y.same i (part.known i known) inside held) may (is_or_not v i.head));
      cost_is = omega (arith, y.cost_is);
      counter = counted-other u v j (y.counters j) (not_head may) ∙ y.counter;
      same =
          λ i known inside held. agrees i known (y.counters i)
          (λ held_u. y.same i known inside held_u) (t.entered arc i known held) may;
    }
