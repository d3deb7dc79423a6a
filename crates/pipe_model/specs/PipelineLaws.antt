-- Theorems on the pipeline.
use Rattle.std.specs.Prelude.{◌≡◌, ℕ, suc, ◌-◌, List, ◌++◌, map, slice_set, Option, None}
use Rattle.fp_ports.specs.PluggedPorts.{Row}
use Rattle.core_model.specs.World.{Start, start_world, events}
use Rattle.pipe_model.specs.declared.stage_registers.Held.TheVariants.{Bubble}
use Rattle.pipe_model.specs.Stages.{StageRegisters, State, step}
use Rattle.pipe_model.specs.Contents.{Contents}
use Rattle.pipe_model.specs.StageView.{Shown}
use Rattle.pipe_model.specs.Relation.{PipelineRefines, PortsRefine, Begins, RefinesNext, HasLatches}
use Rattle.pipe_model.specs.Relation.{bank_in, control_in, turn_at, event_in, of_thread}
use Rattle.core_model.specs.Delays.{cycles_to_w}

-- if a state refines a cycle, its state after one cycle refines the next one
abbrev pub StepRefines : Type 0
StepRefines =
    (s : Start) (c : ℕ) (p : StageRegisters) (u : State) → Begins s → PortsRefine s c u.ports →
    PipelineRefines s c p u → RefinesNext s c u.ports (step p u c)

-- empty stage registers, with the pcs that the threads fetch next
abbrev pub empty : List ℕ → StageRegisters
empty next = record { next = next; f = Bubble; d = Bubble; e = Bubble; m = Bubble; w = Bubble }

-- units that hold the start
abbrev pub first_units : Start → List (Option Row) → State
first_units s ports =
    record {
      bank = bank_in (start_world s);
      i_words = s.i_words;
      d_words = s.d_words;
      control = control_in (start_world s);
      last = 7;
      period = s.period;
      size = s.size;
      confined = s.confined;
      permit = s.permit;
      ports = ports;
    }

-- an empty pipeline and these units refine cycle 0, with ports that have the first latches
abbrev pub StartRefines : Type 0
StartRefines =
    (s : Start) (ports : List (Option Row)) → Begins s → HasLatches (start_world s) ports →
    PipelineRefines s 0 (empty (map (λ t. t.pc) s.threads)) (first_units s ports)

-- the refinement holds after a port is removed
abbrev pub RefinesWithoutPort : Type 0
RefinesWithoutPort =
    (s : Start) (c : ℕ) (p : StageRegisters) (u : State) (k : ℕ) → PipelineRefines s c p u →
    PipelineRefines s c p (record u { ports = slice_set u.ports k None })

-- after each cycle a thread has its earlier events, followed by the event of the turn that retires,
-- if the turn is its own
abbrev pub EventsGrow : Type 0
EventsGrow =
    (s : Start) (i c : ℕ) →
    events s i (suc c) ≡ events s i c ++ of_thread i (event_in (c - cycles_to_w) (turn_at s c 3))

-- stage registers that refine a cycle show its turns
abbrev pub ShowsTurns : Type 0
ShowsTurns = (s : Start) (c : ℕ) (p : StageRegisters) (u : State) → PipelineRefines s c p u →
    Shown s c p u

-- and they hold the defined contents of these turns
abbrev pub HoldsTurns : Type 0
HoldsTurns =
    (s : Start) (c : ℕ) (p : StageRegisters) (u : State) → Begins s → PipelineRefines s c p u →
    Contents s c p
