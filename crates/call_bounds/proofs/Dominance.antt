-- A net that is computed in place of another, with the best costs of each arc.
use Rattle.std.proofs.Common.{◌≡◌, ℕ, ◌+◌, ◌≤◌, refl, arith, ◌∙◌, min}
use Rattle.fp_setup.specs.declared.loop_list.LoopSetup.{LoopSetup}
use Rattle.region_tree.specs.Walk.{counter_after}
use Rattle.bound_calc.specs.Best.{Entries, IsBest, ceiling}
use Rattle.bound_calc.specs.Context.{Net, Scope, Walk}
use Rattle.bound_calc.specs.PathCosts.{Reaches}

-- Two nets with the same own positions and loops, whose arcs differ only in their costs. The costs
-- are equal up to the ceiling.
pub record CostsAgree (own : ℕ → Type 0) (loop : LoopSetup → Type 0)
    (arc arc' : ℕ → ℕ → ℕ → ℕ → ℕ → Type 0) : Type 0 where
  pub covers : (u p d v q : ℕ) → arc u p d v q → (e : ℕ) × arc' u p e v q × (min d ceiling ≤ e)
  pub among : (u p e v q : ℕ) → arc' u p e v q →
      (d : ℕ) × arc u p d v q × (min e ceiling ≡ min d ceiling)

abbrev pub net_of : (ℕ → Type 0) → (LoopSetup → Type 0) → (ℕ → ℕ → ℕ → ℕ → ℕ → Type 0) → Net
net_of own loop arc = record { own = own; arc = arc; loop = loop }

sum-up : (c c' d e n : ℕ) → min c n ≤ c' → min d n ≤ e → min (c + d) n ≤ c' + e
sum-up c c' d e n h h' = omega arith

sum-same : (c c' d e n : ℕ) → min c' n ≡ min c n → min e n ≡ min d n →
    min (c' + e) n ≡ min (c + d) n
sum-same c c' d e n h h' = omega arith

pub above : {own : ℕ → Type 0} {loop : LoopSetup → Type 0}
    {arc arc' : ℕ → ℕ → ℕ → ℕ → ℕ → Type 0} {s : Scope} {p n v q c : ℕ} {k : LoopSetup → ℕ} →
    CostsAgree own loop arc arc' → Walk (net_of own loop arc) s p n v q c k →
    (c' : ℕ) × Walk (net_of own loop arc') s p n v q c' k × (min c ceiling ≤ c')
above st (Walk.start o) = (0, Walk.start o, omega arith)
above {own} {loop} {arc} {arc'} {s} {p} st
    (Walk.step {n} {u} {q} {c} {d} {v} {r} {k} w a high may f) =
    go (above st w) (st.covers u q d v r a)
  where
    go : (c' : ℕ) × Walk (net_of own loop arc') s p n u q c' k × (min c ceiling ≤ c') →
        (e : ℕ) × arc' u q e v r × (min d ceiling ≤ e) →
        (c' : ℕ) × Walk (net_of own loop arc') s p (n + 1) v r c' (λ j. counter_after u v j (k j))
        × (min (c + d) ceiling ≤ c')
    go (c', w', le) (e, a', le') =
        (c' + e, Walk.step w' a' high may f, sum-up c c' d e ceiling le le')

pub back : {own : ℕ → Type 0} {loop : LoopSetup → Type 0}
    {arc arc' : ℕ → ℕ → ℕ → ℕ → ℕ → Type 0} {s : Scope} {p n v q c : ℕ} {k : LoopSetup → ℕ} →
    CostsAgree own loop arc arc' → Walk (net_of own loop arc') s p n v q c k →
    (c' : ℕ) × Walk (net_of own loop arc) s p n v q c' k × (min c ceiling ≡ min c' ceiling)
back st (Walk.start o) = (0, Walk.start o, refl)
back {own} {loop} {arc} {arc'} {s} {p} st
    (Walk.step {n} {u} {q} {c} {d} {v} {r} {k} w a high may f) =
    go (back st w) (st.among u q d v r a)
  where
    go : (c' : ℕ) × Walk (net_of own loop arc) s p n u q c' k × (min c ceiling ≡ min c' ceiling) →
        (e : ℕ) × arc u q e v r × (min d ceiling ≡ min e ceiling) →
        (c' : ℕ) × Walk (net_of own loop arc) s p (n + 1) v r c' (λ j. counter_after u v j (k j))
        × (min (c + d) ceiling ≡ min c' ceiling)
    go (c', w', is) (e, a', is') =
        (c' + e, Walk.step w' a' high may f, sum-same c' c e d ceiling is is')

larger : (c c' e n : ℕ) → min c n ≤ c' → min c' n ≤ e → min c n ≤ e
larger c c' e n h h' = omega arith

-- a matrix that is best for the second net is best for the first
pub costs_agree : {own : ℕ → Type 0} {loop : LoopSetup → Type 0}
    {arc arc' : ℕ → ℕ → ℕ → ℕ → ℕ → Type 0} {s : Scope} {m : Entries} {v : ℕ} →
    CostsAgree own loop arc arc' →
    IsBest m (Reaches (net_of own loop arc') s v) → IsBest m (Reaches (net_of own loop arc) s v)
costs_agree st b = (
  λ p c q x. let w = above st x.walk in
      let e = b.0 p w.0 q (record { steps = x.steps; counters = x.counters; walk = w.1 }) in
      (e.0, e.1, larger c w.0 e.0 ceiling w.2 e.2),
  λ p e q is. let z = b.1 p e q is in
      let y = z.1 in
      let w = back st y.walk in
      (w.0, record { steps = y.steps; counters = y.counters; walk = w.1 }, z.2 ∙ w.2),
)
