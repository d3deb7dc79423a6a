-- The sets of costs that the matrices hold.
use Rattle.std.specs.Prelude.{◌≡◌, ℕ, ◌+◌, ◌<◌, ◌≤◌, ◌⊎◌}
use Rattle.bound_calc.specs.Best.{Costs, Either, Power, Stays}
use Rattle.bound_calc.specs.Context.{Net, Scope, Walk, body}
use Rattle.fp_setup.specs.declared.loop_list.LoopSetup.{LoopSetup}
use Rattle.region_tree.specs.Graph.{Holds}

-- a path of the part to word v
pub record Reaches (g : Net) (s : Scope) (v p c q : ℕ) : Type 0 where
  pub steps : ℕ
  pub counters : LoopSetup → ℕ
  pub walk : Walk g s p steps v q c counters

-- a path of the part and then a step up to word v
pub record Climbs (g : Net) (s : Scope) (v p c q : ℕ) : Type 0 where
  pub from : ℕ
  pub at : ℕ
  pub one : ℕ
  pub two : ℕ
  pub walk : Reaches g s from p one at
  pub arc : g.arc from at two v q
  pub up : from < v
  pub high : v ≤ s.high
  pub cost : c ≡ one + two

-- the costs at word v that come from below
abbrev pub Enters : Net → Scope → ℕ → Costs
Enters g s v p c q = ((v ≡ s.low) × Stays g.own p c q) ⊎ Climbs g s v p c q

-- a path of a loop's own part and then a step back to the head
pub record Round (g : Net) (j : LoopSetup) (p c q : ℕ) : Type 0 where
  pub from : ℕ
  pub at : ℕ
  pub one : ℕ
  pub two : ℕ
  pub walk : Reaches g (body g j) from p one at
  pub arc : g.arc from at two j.head q
  pub held : Holds j from
  pub cost : c ≡ one + two

-- at most n rounds
abbrev pub Rounds : Net → LoopSetup → ℕ → Costs
Rounds g j n = Power g.own (Either (Stays g.own) (Round g j)) n
