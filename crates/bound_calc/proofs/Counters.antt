-- A loop's counter after one step, and the invariants of every path.
use Rattle.std.proofs.Common.{◌≡◌, ℕ, ◌+◌, ◌<◌, ◌≤◌, ◌≢◌, arith, inl, inr, subst}
use Rattle.std.proofs.lemmas.Bool.Decides.{nat_tests}
use Rattle.bound_calc.specs.Context.{IsNested, IsScope, May, Net, Scope, Walk}
use Rattle.fp_setup.specs.declared.loop_list.LoopSetup.{LoopSetup}
use Rattle.region_tree.specs.Walk.{counter_after}
use Rattle.bound_calc.specs.Context.Walk.{start, step}

pub counted-other : (u v : ℕ) (j : LoopSetup) (n : ℕ) → v ≢ j.head → counter_after u v j n ≡ n
unfolding counter_after
counted-other u v j n h = grind (arith, nat_tests)

pub counted-back : (u v : ℕ) (j : LoopSetup) (n : ℕ) → v ≡ j.head → j.head ≤ u → u ≤ j.last →
    counter_after u v j n ≡ n + 1
unfolding counter_after
counted-back u v j n h a b = grind (arith, nat_tests)

pub counted-in : (u v : ℕ) (j : LoopSetup) (n : ℕ) → v ≡ j.head → u < v → counter_after u v j n ≡ 0
unfolding counter_after
counted-in u v j n h a = grind (arith, nat_tests)

pub counted-after : (u v : ℕ) (j : LoopSetup) (n : ℕ) → v ≡ j.head → j.last < u →
    counter_after u v j n ≡ 0
unfolding counter_after
counted-after u v j n h a = grind (arith, nat_tests)

pub counted-≤ : (u v : ℕ) (j : LoopSetup) (m n : ℕ) → m ≤ n →
    counter_after u v j m ≤ counter_after u v j n
unfolding counter_after
counted-≤ u v j m n h = grind (arith, nat_tests)

-- no counter of the part is above its bound
pub kept : {g : Net} {s : Scope} {p n v q c : ℕ} {k : LoopSetup → ℕ} → Walk g s p n v q c k →
    (j : LoopSetup) → s.loops j → k j ≤ j.limit
kept (start o) j h = omega arith
kept (step w a b m f) j h = f j h

-- a path doesn't leave its part
pub above : {g : Net} {s : Scope} {p n v q c : ℕ} {k : LoopSetup → ℕ} → IsScope g s →
    Walk g s p n v q c k → s.low ≤ v
above t (start o) = omega arith
above {s = s} t (step {u = u} {v = v} w a b m f) = go (above t w) m
  where
    go : s.low ≤ u → May s u v → s.low ≤ v
    go h (inl l) = omega arith
    go h (inr i) = let e : s.low ≤ i.0.head = (t.within i.0 i.1).0 in let z = i.2 in omega arith

-- it ends at an own position
pub lands : {g : Net} {s : Scope} {p n v q c : ℕ} {k : LoopSetup → ℕ} → IsNested g →
    Walk g s p n v q c k → g.own q
lands t (start o) = o
lands t (step w a b m f) = t.lands a

pub begins : {g : Net} {s : Scope} {p n v q c : ℕ} {k : LoopSetup → ℕ} →
    Walk g s p n v q c k → g.own p
begins (start o) = o
begins (step w a b m f) = begins w

-- the same path, with equal end and cost
pub moved : {g : Net} {s : Scope} {p n v q q' c c' : ℕ} {k : LoopSetup → ℕ} → q ≡ q' → c ≡ c' →
    Walk g s p n v q c k → Walk g s p n v q' c' k
moved {g} {s} {p} {n} {v} {q} {q'} {c} {c'} {k} a b w =
    subst (λ c. Walk g s p n v q' c k) b (subst (λ q. Walk g s p n v q c k) a w)
