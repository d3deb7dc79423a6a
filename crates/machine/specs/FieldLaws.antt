-- Theorems on the fields of a machine, and on ports that refine a cycle of a world.
use Rattle.std.specs.Prelude.{◌≡◌, ℕ, suc, ◌+◌, ◌<◌, List, length, Option}
use Rattle.core_model.specs.World.{Start}
use Rattle.core_model.specs.Delays.{cycles_to_m}
use Rattle.pipe_model.specs.Stages.{StageRegisters, State, Ticked}
use Rattle.pipe_model.specs.Relation.{PipelineRefines, PortsRefine, RefinesNext}
use Rattle.machine.specs.DumpedState.{seen}
use Rattle.machine.specs.Fields.{dump_of}
use Rattle.machine.specs.FieldRelation.{FieldsRefine, ports_left_in}

-- the units with the ports that are left in the cycle
abbrev pub with_ports_left : State → ℕ → List (Option ℕ) → State
with_ports_left u c unplugs = record u { ports = ports_left_in unplugs c u.ports 8 }

-- without the ports that are due, the fields still refine the cycle, and the ports are as the
-- pipeline reads them
pub record Unplugged (s : Start) (c : ℕ) (p : StageRegisters) (u : State) : Type 0 where
  pub refines : PipelineRefines s c p u
  pub shows : PortsRefine s c u.ports

-- removing the ports that are due keeps the refinement
abbrev pub Unplugs : Type 0
Unplugs =
    (s : Start) (c n : ℕ) (p : StageRegisters) (u : State) (at : ℕ) (unplugs : List (Option ℕ)) →
    FieldsRefine s c n p u at unplugs → c < n + cycles_to_m → length u.ports ≡ 8 →
    Unplugged s c p (with_ports_left u c unplugs)

-- the state after the pipeline's step refines the next cycle
abbrev pub GoesOn : Type 0
GoesOn =
    (s : Start) (c n : ℕ) (p : StageRegisters) (u : State) (at : ℕ) (unplugs : List (Option ℕ))
    (t : Ticked) → FieldsRefine s c n p u at unplugs → length u.ports ≡ 8 →
    RefinesNext s c (with_ports_left u c unplugs).ports t →
    FieldsRefine s (suc c) n t.stage_registers t.state (suc at) unplugs

-- the dump lines from the machine's fields are those of the world
abbrev pub Dumps : Type 0
Dumps =
    (s : Start) (c n : ℕ) (p : StageRegisters) (u : State) (at : ℕ) (unplugs : List (Option ℕ)) →
    FieldsRefine s c n p u at unplugs → dump_of p u at ≡ seen s c
