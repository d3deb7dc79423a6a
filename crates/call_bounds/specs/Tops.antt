-- The largest cost of the paths that end at the words of a section.
use Rattle.std.specs.Prelude.{◌≡◌, ℕ, ◌<◌, Option, List, length}
use Rattle.rv_decode.specs.Lag.{redirect_lag}
use Rattle.region_tree.specs.Tree.{Tree}
use Rattle.region_tree.specs.Walk.{Positions}
use Rattle.region_tree.specs.declared.edges.Edges.{Edges}
use Rattle.bound_calc.specs.Best.{Costs, Either, Entries, In, IsBest, Then}
use Rattle.bound_calc.specs.Passing.{ReachesAt}
use Rattle.bound_calc.specs.Propagation.{CostsOn, edges_at, leaves, matrix_at, move_costs}
use Rattle.bound_calc.specs.Tops.{IsTop}
use Rattle.bound_calc.specs.declared.matrix.Matrix.{Matrix}
use Rattle.call_bounds.specs.Summaries.{Any, EndsAt, When}

-- the costs up to a word, from there on by a call, and from there out of the section
abbrev pub EndsFrom : Tree → Positions → Option Matrix → Option Matrix → Edges → Entries → Costs
EndsFrom t s edge_costs into e here =
    Either (Either (EndsAt into here)
    (When (leaves t e.next) (Then (In here) (move_costs s edge_costs e.next_lag))))
    (When (leaves t e.jump) (Then (In here) (move_costs s edge_costs redirect_lag)))

-- the same at the word with an index
abbrev pub EndsBy : Tree → Positions → CostsOn → CostsOn → ℕ → Entries → Costs
EndsBy t s word_costs into k here = EndsFrom t s (word_costs k) (into k) (edges_at t k) here

-- The largest of them at the words with indices below n. Each word has the largest costs of paths
-- to it.
pub record IsMostBelow (t : Tree) (s : Positions) (word_costs into : CostsOn) (n most : ℕ)
    : Type 0 where
  pub at : List Matrix
  pub count : length at ≡ n
  pub best : (k : ℕ) → k < n → IsBest (matrix_at at k) (ReachesAt t s word_costs k)
  pub top : IsTop (Any (λ k. EndsBy t s word_costs into k (matrix_at at k)) n) 0 most
