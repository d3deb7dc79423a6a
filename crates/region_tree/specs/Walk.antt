-- Paths through a section, by the turns of a thread.
use Rattle.std.specs.Prelude.{◌≡◌, ℕ, ◌+◌, ◌%◌, ◌<◌, ◌≤◌, ◌==◌, ◌&&◌, nat_le}
use Rattle.std.specs.Prelude.{if◌then◌else◌, List, [], ◌∷◌, length, slice_index, Contains}
use Rattle.fp_setup.specs.declared.loop_list.LoopSetup.{LoopSetup}
use Rattle.region_tree.specs.Graph.{Graph, Lies}

-- The slots that take turns, in order, and the thread whose turns count.
pub record Positions : Type 0 where
  pub frame : List ℕ
  pub thread : ℕ

-- a position of the frame that is the thread's
pub record IsOwn (s : Positions) (p : ℕ) : Type 0 where
  pub within : p < length s.frame
  pub own : slice_index s.frame p ≡ s.thread

-- After an issue at position p the thread's first turn that is at least `lag` cycles later comes d
-- cycles later, at position q.
pub record IsNextTurn (s : Positions) (lag p d q : ℕ) : Type 0 where
  pub start : IsOwn s p
  pub late : lag ≤ d
  pub lands : q ≡ (p + d) % length s.frame
  pub own : IsOwn s q
  pub first : (e : ℕ) → lag ≤ e → e < d → IsOwn s ((p + e) % length s.frame) → ⊥

-- The inputs of paths: the graph and the positions.
pub record Course : Type 0 where
  pub graph : Graph
  pub positions : Positions

-- A step: the word and the position of an issue, the lag of the edge taken, and the cycles until
-- the next issue. Then the word and the position of that one.
pub record Step : Type 0 where
  pub from : ℕ
  pub at : ℕ
  pub lag : ℕ
  pub cost : ℕ
  pub to : ℕ
  pub position : ℕ

-- A step of a path follows an edge of the graph, to the first turn after its lag.
pub record IsStep (x : Course) (t : Step) : Type 0 where
  pub edge : Contains (x.graph.edges t.from) (record { to = t.to; lag = t.lag })
  pub turn : IsNextTurn x.positions t.lag t.at t.cost t.position

-- Steps inside the section, the newest first, from word u at position p to word v at position q.
-- Each begins at the end of the one before it.
abbrev pub Leads : Course → ℕ → ℕ → List Step → ℕ → ℕ → Type 0
Leads x u p [] v q = (v ≡ u) × (q ≡ p)
Leads x u p (t ∷ ts) v q =
    Leads x u p ts t.from t.at × IsStep x t × Lies x.graph t.to × (v ≡ t.to) × (q ≡ t.position)

-- the cycles from the first issue to the last
abbrev pub cost : List Step → ℕ
cost [] = 0
cost (t ∷ ts) = cost ts + t.cost

-- A loop's counter after a step from u to v: incremented if a word of the loop leads to its head, 0
-- if another word does, else unchanged.
unfoldable pub counter_after : ℕ → ℕ → LoopSetup → ℕ → ℕ
counter_after u v j n =
    if v == j.head then (if nat_le j.head u && nat_le u j.last then n + 1 else 0) else n

-- the counter after these steps, the newest first, from n
abbrev pub counter : LoopSetup → ℕ → List Step → ℕ
counter j n [] = n
counter j n (t ∷ ts) = counter_after t.from t.to j (counter j n ts)

-- no counter ever exceeds its loop's bound; the counter of loop j begins at k j
abbrev pub Keeps : List LoopSetup → (LoopSetup → ℕ) → List Step → Type 0
Keeps loops k [] = Unit {0}
Keeps loops k (t ∷ ts) =
    Keeps loops k ts × ((j : LoopSetup) → Contains loops j → counter j (k j) (t ∷ ts) ≤ j.limit)

-- A path that keeps the bounds: from the section's first word at own position p to word v at
-- position q.
pub record IsWalk (x : Course) (p : ℕ) (ts : List Step) (v q : ℕ) : Type 0 where
  pub own : IsOwn x.positions p
  pub leads : Leads x x.graph.from p ts v q
  pub keeps : Keeps x.graph.loops (λ j. 0) ts

-- The costs of paths that keep the bounds: a path may end anywhere, and a step out of the section
-- ends it.
pub data CostsOf (x : Course) : ℕ → Type 0 where
  ends : {p v q : ℕ} (ts : List Step) → IsWalk x p ts v q → CostsOf x (cost ts)
  leaves : {p : ℕ} (ts : List Step) (t : Step) → IsWalk x p ts t.from t.at → IsStep x t →
      (Lies x.graph t.to → ⊥) → CostsOf x (cost (t ∷ ts))
