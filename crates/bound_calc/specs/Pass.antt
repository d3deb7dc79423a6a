-- The frontier of a forward pass between two words.
use Rattle.std.specs.Prelude.{◌≡◌, ℕ, ◌+◌, ◌<◌, ◌≤◌, ◌⊎◌, Option, Contains}
use Rattle.bound_calc.specs.Best.{Costs, Stays}
use Rattle.bound_calc.specs.Context.{Scope, body}
use Rattle.bound_calc.specs.Section.{Field, net}
use Rattle.bound_calc.specs.PathCosts.{Reaches}
use Rattle.fp_setup.specs.declared.loop_list.LoopSetup.{LoopSetup}
use Rattle.region_tree.specs.Graph.{Edge, edge_to}

-- a set of edges, each with the word that it leaves
abbrev pub Edges : Type 1
Edges = ℕ → Edge → Type 0

-- the edges of the words below v
abbrev pub Below : Field → ℕ → Edges
Below x v u e = (u < v) × Contains (x.graph.edges u) e

-- these edges and one more
abbrev pub And : Edges → ℕ → Edge → Edges
And f v e u e' = f u e' ⊎ ((u ≡ v) × (e' ≡ e))

-- these edges and that of a word to a target, if there is one
abbrev pub AndTo : Edges → ℕ → Option ℕ → ℕ → Edges
AndTo f v target lag u e = f u e ⊎ ((u ≡ v) × Contains (edge_to target lag) e)

-- a path of the part and then one of the edges, up to word w
pub record Brings (x : Field) (s : Scope) (f : Edges) (w p c q : ℕ) : Type 0 where
  pub from : ℕ
  pub at : ℕ
  pub one : ℕ
  pub two : ℕ
  pub lag : ℕ
  pub walk : Reaches (net x) s from p one at
  pub edge : f from (record { to = w; lag = lag })
  pub move : x.move from lag at two q
  pub up : from < w
  pub high : w ≤ s.high
  pub cost : c ≡ one + two

-- the costs at a word of a part: no step at its first word, or the costs that edges bring
abbrev pub Comes : Field → Scope → Edges → ℕ → Costs
Comes x s f w p c q = ((w ≡ s.low) × Stays x.own p c q) ⊎ Brings x s f w p c q

-- a path of a loop's own part and then one of the edges, back to the head
pub record Turns (x : Field) (j : LoopSetup) (f : Edges) (p c q : ℕ) : Type 0 where
  pub from : ℕ
  pub at : ℕ
  pub one : ℕ
  pub two : ℕ
  pub lag : ℕ
  pub walk : Reaches (net x) (body (net x) j) from p one at
  pub edge : f from (record { to = j.head; lag = lag })
  pub move : x.move from lag at two q
  pub cost : c ≡ one + two
