-- The sections and loops without a bound, and the reasons.
use Rattle.std.specs.Prelude.{◌≡◌, ℕ, ◌≤◌, ◌⊎◌, Contains}
use Rattle.fp_setup.specs.declared.loop_list.LoopSetup.{LoopSetup}
use Rattle.region_tree.specs.Graph.{Edge, Graph, Lies, Holds, Reachable}
use Rattle.region_tree.specs.Nesting.{NestingAt}
use Rattle.region_tree.specs.declared.edges.Stop.TheVariants.{Indirect, Timed}
use Rattle.region_tree.specs.declared.tree.TreeNo.{TreeNo}
use Rattle.region_tree.specs.declared.tree.TreeNo.TheVariants.{Nesting, IndirectJump, TimedWait}
use Rattle.region_tree.specs.declared.tree.TreeNo.TheVariants.{UnboundedBackEdge, NoMemory}

-- a reachable word that jumps to an address out of a register
abbrev pub IndirectAt : Graph → ℕ → Type 0
IndirectAt g u = Reachable g u × (g.stop u ≡ Indirect)

-- a reachable word that waits for a moment
abbrev pub TimedAt : Graph → ℕ → Type 0
TimedAt g u = Reachable g u × (g.stop u ≡ Timed)

-- a reachable word with an edge to itself or to a lower word inside the section, except to the head
-- of a counting loop that contains the word
pub record UnboundedAt (g : Graph) (u : ℕ) : Type 0 where
  pub by : Edge
  pub reached : Reachable g u
  pub edge : Contains (g.edges u) by
  pub inside : Lies g by.to
  pub down : by.to ≤ u
  pub unbounded : (j : LoopSetup) → Contains g.loops j → by.to ≡ j.head → Holds j u → ⊥

-- P holds at no address
abbrev pub Nowhere : (ℕ → Type 0) → Type 0
Nowhere P = (a : ℕ) → P a → ⊥

-- P holds at this address and at none below
pub record IsLowest (P : ℕ → Type 0) (a : ℕ) : Type 0 where
  pub holds : P a
  pub lowest : (b : ℕ) → P b → a ≤ b

-- The first of the four that holds anywhere, with the lowest address. Memory may run out in any
-- case.
abbrev pub IsRefused : Graph → TreeNo → Type 0
IsRefused g (Nesting a) = IsLowest (NestingAt g) a
IsRefused g (IndirectJump a) = Nowhere (NestingAt g) × IsLowest (IndirectAt g) a
IsRefused g (TimedWait a) = Nowhere (NestingAt g) × Nowhere (IndirectAt g) × IsLowest (TimedAt g) a
IsRefused g (UnboundedBackEdge a) =
    Nowhere (NestingAt g) × Nowhere (IndirectAt g) × Nowhere (TimedAt g)
    × IsLowest (UnboundedAt g) a
IsRefused g NoMemory = Unit {0}

-- None of the four holds anywhere.
pub record IsAllowed (g : Graph) : Type 0 where
  pub nesting : Nowhere (NestingAt g)
  pub indirect : Nowhere (IndirectAt g)
  pub timed : Nowhere (TimedAt g)
  pub unbounded : Nowhere (UnboundedAt g)
