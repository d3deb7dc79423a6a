-- A course as a net, and the facts of one whose tree was accepted.
use Rattle.std.specs.Prelude.{◌≡◌, ℕ, ◌-◌, ◌<◌, ◌≤◌, ◌⊎◌, length, Contains}
use Rattle.rv_decode.specs.Lag.{redirect_lag}
use Rattle.region_guard.specs.MemoryMap.{large_size}
use Rattle.fp_setup.specs.Loops.{most_rounds}
use Rattle.bound_calc.specs.Best.{Costs}
use Rattle.bound_calc.specs.Context.{Net, Scope}
use Rattle.fp_setup.specs.declared.loop_list.LoopSetup.{LoopSetup}
use Rattle.region_tree.specs.Graph.{Edge, Graph, Holds, Inside, Lies, Reachable}
use Rattle.region_tree.specs.Nesting.{depth, most_depth}
use Rattle.region_tree.specs.Walk.{Course, IsOwn, IsNextTurn, Positions}

-- Loops are properly nested and entered only at their heads. Every reachable back edge is to the
-- head of a loop that holds its word.
pub record IsAccepted (g : Graph) : Type 0 where
  pub ordered : (j : LoopSetup) → Contains g.loops j →
      (g.from ≤ j.head) × (j.head ≤ j.last) × (j.last < g.to)
  pub nested : (j i : LoopSetup) → Contains g.loops j → Contains g.loops i → j.head ≤ i.last →
      i.head ≤ j.last → (j ≡ i) ⊎ (Inside j i ⊎ Inside i j)
  pub entered : (u : ℕ) (e : Edge) (j : LoopSetup) → Reachable g u → Contains (g.edges u) e →
      Contains g.loops j → Holds j e.to → (Holds j u) ⊎ (e.to ≡ j.head)
  pub back : (u : ℕ) (e : Edge) → Reachable g u → Contains (g.edges u) e → Lies g e.to → e.to ≤ u →
      (j : LoopSetup) × Contains g.loops j × (e.to ≡ j.head) × Holds j u

-- The frame has at most eight slots, lags are those of the table, bounds at most `most_rounds`, and
-- no loop lies deeper than `most_depth`.
pub record IsModest (x : Course) : Type 0 where
  pub frame : length x.positions.frame ≤ 8
  pub lags : (u : ℕ) (e : Edge) → Contains (x.graph.edges u) e → e.lag ≤ redirect_lag
  pub bounds : (j : LoopSetup) → Contains x.graph.loops j → j.limit ≤ most_rounds
  pub depths : (j : LoopSetup) → Contains x.graph.loops j → depth x.graph.loops j ≤ most_depth
  pub end : x.graph.to ≤ large_size
  pub order : x.graph.from < x.graph.to

-- the steps to the next turn after a lag
abbrev pub Steps : Positions → ℕ → Costs
Steps s lag p d q = IsNextTurn s lag p d q

-- A control-flow graph, a thread's own positions, and the costs of the edges of word u with a lag.
pub record Field : Type 1 where
  pub graph : Graph
  pub own : ℕ → Type 0
  pub move : ℕ → ℕ → Costs

-- only by the turns
abbrev pub field : Course → Field
field x = record { graph = x.graph; own = IsOwn x.positions; move = λ u lag. Steps x.positions lag }

-- a step along an edge of a reachable word
pub record Arc (x : Field) (u p d v q : ℕ) : Type 0 where
  pub lag : ℕ
  pub edge : Contains (x.graph.edges u) (record { to = v; lag = lag })
  pub move : x.move u lag p d q
  pub reached : Reachable x.graph u
  pub lies : Lies x.graph v

-- its net: own positions, arcs and loops
abbrev pub net : Field → Net
net x = record { own = x.own; arc = Arc x; loop = Contains x.graph.loops }

-- the whole section as a part
abbrev pub whole : Field → Scope
whole x = record { low = x.graph.from; high = x.graph.to - 1; loops = Contains x.graph.loops }
