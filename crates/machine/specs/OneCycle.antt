-- A cycle of a machine, and skipped cycles, with the stage registers as the stages use them.
use Rattle.std.specs.Prelude.{◌≡◌, ℕ, ◌+◌, ◌<◌, ◌≤◌, List, length, Option}
use Rattle.core_model.specs.Delays.{cycles_to_m}
use Rattle.core_model.specs.World.{Start}
use Rattle.fp_ports.specs.PluggedPorts.{Row}
use Rattle.pipe_model.specs.declared.stage_registers.Held.{Held}
use Rattle.pipe_model.specs.declared.stage_registers.Written.{Written}
use Rattle.pipeline_core.specs.declared.stages.Stages.{Stages}
use Rattle.pipeline_core.specs.Abstraction.{registers_in}
use Rattle.pipeline_core.specs.Retiring.{retired_in}
use Rattle.machine.specs.declared.state.Machine.{Machine}
use Rattle.machine.specs.Sleeping.{PassedOverWith}
use Rattle.machine.specs.WorldRelation.{AreLeft, RefinesWith, TicksWith}

-- One cycle takes the stage registers, the machine and its ports to `later`, `after` and `left`,
-- with the turn `written` in w. If they refine a cycle of a world, with some turn in w, they refine
-- its next cycle afterwards, and the event of the turn in m is the world's.
pub record DoesCycle (stages : Stages) (m : Machine) (ports : List (Option Row)) (later : Stages)
    (written : Held Written) (after : Machine) (left : List (Option Row)) : Type 0 where
  pub relation : (s : Start) (n : ℕ) (w : Held Written) → m.at < n + cycles_to_m →
      RefinesWith s m.at n (registers_in stages w) m ports →
      TicksWith s m.at n ports (registers_in later written) after left (retired_in m.at stages.m)
  pub at : after.at ≡ m.at + 1
  pub unplugs : after.unplugs ≡ m.unplugs
  pub words : AreLeft ports left

-- Cycles before `end` are skipped. Only the machine's cycle changes. If the machine refines a cycle
-- of a world, with some turn in w, it refines the cycle that it comes to, with another turn in w,
-- and no event retired in between.
pub record Skips (stages : Stages) (m : Machine) (end : ℕ) (later : Stages) (after : Machine) :
    Type 0 where
  pub stay : later ≡ stages
  pub only_at : after ≡ record m { at = after.at }
  pub on : m.at ≤ after.at
  pub within : after.at ≤ end
  pub passed : (s : Start) (n : ℕ) (ports : List (Option Row)) (w : Held Written) →
      end ≤ n + cycles_to_m → length ports ≡ 8 →
      RefinesWith s m.at n (registers_in stages w) m ports →
      (v : Held Written) × PassedOverWith s m.at n (registers_in later v) after ports
