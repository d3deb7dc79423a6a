-- Paths over a graph with counting loops, in parts: a loop's own part, or a whole section.
use Rattle.std.specs.Prelude.{◌≡◌, ℕ, ◌+◌, ◌<◌, ◌≤◌, ◌⊎◌}
use Rattle.fp_setup.specs.declared.loop_list.LoopSetup.{LoopSetup}
use Rattle.region_tree.specs.Graph.{Holds, Inside}
use Rattle.region_tree.specs.Walk.{counter_after}

-- the net of a path: own u, u is an own position; arc u p d v q, a step leads from word u at
-- position p to word v at position q and costs d; loop j, j is a counting loop
pub record Net : Type 1 where
  pub own : ℕ → Type 0
  pub arc : ℕ → ℕ → ℕ → ℕ → ℕ → Type 0
  pub loop : LoopSetup → Type 0

-- the words from low to high, with the loops whose heads a path may reach again
pub record Scope : Type 1 where
  pub low : ℕ
  pub high : ℕ
  pub loops : LoopSetup → Type 0

-- a step goes up, or back to the head of a loop of the part that holds its word
abbrev pub May : Scope → ℕ → ℕ → Type 0
May s u v = (u < v) ⊎ ((j : LoopSetup) × s.loops j × (v ≡ j.head) × Holds j u)

-- a path of a part from its lowest word at position p: the number of steps, the word and position
-- at its end, its cost, and the counters
pub data Walk (g : Net) (s : Scope) (p : ℕ) : ℕ → ℕ → ℕ → ℕ → (LoopSetup → ℕ) → Type 0 where
  start : g.own p → Walk g s p 0 s.low p 0 (λ _. 0)
  step : {n u q c d v r : ℕ} {k : LoopSetup → ℕ} → Walk g s p n u q c k → g.arc u q d v r →
      v ≤ s.high → May s u v → ((j : LoopSetup) → s.loops j → counter_after u v j (k j) ≤ j.limit) →
      Walk g s p (n + 1) v r (c + d) (λ j. counter_after u v j (k j))

-- a loop's own part: the loops strictly inside it
abbrev pub body : Net → LoopSetup → Scope
body g j = record { low = j.head; high = j.last; loops = λ i. g.loop i × Inside j i }

-- the facts of an accepted tree
pub record IsNested (g : Net) : Type 0 where
  pub lands : {u p d v q : ℕ} → g.arc u p d v q → g.own q
  pub ordered : (j : LoopSetup) → g.loop j → j.head ≤ j.last
  pub nested : (j i : LoopSetup) → g.loop j → g.loop i → j.head ≤ i.last → i.head ≤ j.last →
      (j ≡ i) ⊎ (Inside j i ⊎ Inside i j)
  pub entered : {u p d v q : ℕ} → g.arc u p d v q → (j : LoopSetup) → g.loop j → Holds j v →
      (Holds j u) ⊎ (v ≡ j.head)
  pub back : {u p d v q : ℕ} → g.arc u p d v q → v ≤ u →
      (j : LoopSetup) × g.loop j × (v ≡ j.head) × Holds j u

-- the loops of a part are in it, and so are the loops inside each of them
pub record IsScope (g : Net) (s : Scope) : Type 0 where
  pub known : (j : LoopSetup) → s.loops j → g.loop j
  pub within : (j : LoopSetup) → s.loops j → (s.low ≤ j.head) × (j.last ≤ s.high)
  pub closed : (j i : LoopSetup) → s.loops j → g.loop i → Inside j i → s.loops i
