-- The bound of a section.
use Rattle.std.specs.Prelude.{ℕ, ◌≤◌, ◌^◌}
use Rattle.bound_calc.specs.declared.cycle_bound.BoundNo.{BoundNo}
use Rattle.bound_calc.specs.declared.cycle_bound.BoundNo.TheVariants.{Overflow, NoMemory}
use Rattle.slot_table.specs.Frame.{frame}
use Rattle.region_tree.specs.Tree.{Tree, graph}
use Rattle.region_tree.specs.Walk.{CostsOf, Course, Positions}

-- The largest cost of a path that keeps the bounds: some path costs it, and none costs more.
pub record IsBound (x : Course) (b : ℕ) : Type 0 where
  pub met : CostsOf x b
  pub kept : (c : ℕ) → CostsOf x c → c ≤ b

-- Why there is no bound: it has more than 64 bits, or memory ran out.
abbrev pub IsTooLarge : Course → BoundNo → Type 0
IsTooLarge x (Overflow value) = IsBound x value × (2 ^ 64 ≤ value)
IsTooLarge x NoMemory = Unit {0}

-- the positions of a thread in the frame of a word of the slots register
abbrev pub positions : ℕ → ℕ → Positions
positions slots thread = record { frame = frame slots; thread = thread }

-- the graph and the positions of paths through a tree's section, by the turns of a thread
abbrev pub course : Tree → ℕ → ℕ → Course
course t slots thread = record { graph = graph t; positions = positions slots thread }
