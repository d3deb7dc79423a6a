-- The control graph of a section of code, with the loops that count in it.
use Rattle.std.specs.Prelude.{ℕ, ◌<◌, ◌≤◌, Option, Some, None, List, [], ◌∷◌, ◌++◌, Contains}
use Rattle.rv_decode.specs.Lag.{redirect_lag}
use Rattle.fp_setup.specs.declared.loop_list.LoopSetup.{LoopSetup}
use Rattle.region_tree.specs.declared.edges.Edges.{Edges}
use Rattle.region_tree.specs.declared.edges.Stop.{Stop}

-- An edge: the address that it leads to, and the least number of cycles until the word there
-- issues.
pub record Edge : Type 0 where
  pub to : ℕ
  pub lag : ℕ

-- the edge to an address, if there is one
abbrev pub edge_to : Option ℕ → ℕ → List Edge
edge_to None lag = []
edge_to (Some v) lag = record { to = v; lag = lag } ∷ []

-- the edges of a word: to the next one, and by a jump
abbrev pub edge_list : Edges → List Edge
edge_list e = edge_to e.next e.next_lag ++ edge_to e.jump redirect_lag

-- The words of a section are those from `from` to below `to`. An edge is identified by its source
-- address.
pub record Graph : Type 0 where
  pub from : ℕ
  pub to : ℕ
  pub edges : ℕ → List Edge
  pub stop : ℕ → Stop
  pub loops : List LoopSetup

-- an address in the section
pub record Lies (g : Graph) (u : ℕ) : Type 0 where
  pub low : g.from ≤ u
  pub high : u < g.to

-- an address in a loop
abbrev pub Holds : LoopSetup → ℕ → Type 0
Holds j u = (j.head ≤ u) × (u ≤ j.last)

-- the second loop is inside the first, with its head above the first one's
abbrev pub Inside : LoopSetup → LoopSetup → Type 0
Inside j i = (j.head < i.head) × (i.last ≤ j.last)

-- A word is reachable if edges inside the section lead to it from the section's first word. The
-- loops' bounds are ignored.
pub data Reachable (g : Graph) : ℕ → Type 0 where
  first : Reachable g g.from
  next : {u : ℕ} (e : Edge) → Reachable g u → Contains (g.edges u) e → Lies g e.to →
      Reachable g e.to
