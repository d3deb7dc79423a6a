-- A pass over a whole section, between two words.
use Rattle.std.specs.Prelude.{ℕ}
use Rattle.region_tree.specs.Search.{address}
use Rattle.region_tree.specs.Tree.{Tree}
use Rattle.region_tree.specs.Walk.{Positions}
use Rattle.bound_calc.specs.Best.{Costs}
use Rattle.bound_calc.specs.Propagation.{IsFrontier, IsReady, CostsOn, abstract_frontier, over}
use Rattle.bound_calc.specs.Section.{net, whole}
use Rattle.bound_calc.specs.PathCosts.{Reaches}
use Rattle.bound_calc.specs.declared.matrix.Matrix.{Matrix}
use Rattle.bound_calc.specs.declared.reached.Pass.{Pass}

-- a pass before the word at index n
pub record IsPass (t : Tree) (s : Positions) (word_costs : CostsOn) (n : ℕ) (p : Pass)
    : Type 0 where
  pub ready : IsReady (over t s word_costs) t (whole (over t s word_costs)) p.powers.items
  pub frontier : IsFrontier (over t s word_costs) t (whole (over t s word_costs)) n
      (abstract_frontier p.frontier)

-- the costs at the last word that a pass went over
abbrev pub here : Pass → Matrix
here p = p.frontier.base.value

-- the costs of paths to the word at an index
abbrev pub ReachesAt : Tree → Positions → CostsOn → ℕ → Costs
ReachesAt t s word_costs k = Reaches (net (over t s word_costs)) (whole (over t s word_costs))
    (address t k)
