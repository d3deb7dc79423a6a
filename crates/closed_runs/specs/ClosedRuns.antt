-- What a run of a setup's machine in closed loops puts into a sink.
use Rattle.std.specs.Prelude.{◌≡◌, ℕ, false, List, Option}
use Rattle.std.specs.List.{All}
use Rattle.std.specs.Io.KnownBytes.{Appends}
use Rattle.fp_image.specs.declared.parts.Segment.{Segment}
use Rattle.fp_ports.specs.PluggedPorts.{Row}
use Rattle.fp_setup.specs.Rules.{KeepsRules}
use Rattle.fp_setup.specs.Settings.{Settings}
use Rattle.fp_setup.specs.declared.thread_list.ThreadSetup.{ThreadSetup}
use Rattle.trace_print.specs.Text.{text}
use Rattle.closed_loops.specs.Loop.{phased_in_loop, solo_in_loop}
use Rattle.isolation.specs.TraceLaws.{IsConfinedHard, Machine}
use Rattle.closed_laws.specs.ClosedTraces.{IsConfinedThroughLoop, IsLoopQuiet, KeepsLoopRegions}
use Rattle.closed_laws.specs.ClosedTraces.{Responses, loop_phases, loop_trace, loop_view_of}
use Rattle.closed_laws.specs.ClosedTraces.{plant_in}

-- the machine of a setup and an image, with ports as they are handed in
abbrev pub machine_with : Settings → List Segment → List (Option Row) → Machine
machine_with setup image ports = record { setup = setup; image = image; ports = ports }

-- The text that was put for a thread, after n cycles in loops: its trace in the run in which each
-- plant responds to its thread. For a confined thread, with premises on retired issues, it is the
-- text of the thread by itself in the loop with its plant.
pub record WritesLoops (m : Machine) (responses : Responses) (every i n : ℕ)
    (before after : Option (List ℕ)) : Type 0 where
  pub trace_is : Appends before after (loop_trace m responses every i n)
  pub alone : KeepsRules m.setup → IsConfinedHard m i → IsLoopQuiet m responses every n →
      Appends before after
      (text (solo_in_loop (loop_view_of m i n) (plant_in m responses every i n) n))
  pub unpermitted : KeepsRules m.setup → IsConfinedHard m i →
      All (λ (t : ThreadSetup). t.permit ≡ false) m.setup.threads → Appends before after
      (text (solo_in_loop (loop_view_of m i n) (plant_in m responses every i n) n))
  pub phased : KeepsRules m.setup → IsConfinedThroughLoop m responses every i n →
      KeepsLoopRegions m responses every n → Appends before after
      (text (phased_in_loop (loop_view_of m i n) (plant_in m responses every i n)
      (loop_phases m responses every n) n))
