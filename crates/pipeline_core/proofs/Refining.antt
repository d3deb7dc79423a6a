-- The state after a cycle refines the next one.
use Rattle.std.proofs.Common.{◌≡◌, ℕ, List, map}
use Rattle.std.specs.Prelude.{Option}
use Rattle.rv_exec.specs.declared.outcome.Event.{Event}
use Rattle.fp_ports.specs.PluggedPorts.{Row}
use Rattle.core_model.specs.World.{Start, start_world}
use Rattle.pipe_model.specs.Stages.{StageRegisters, State, Ticked, step}
use Rattle.pipe_model.specs.Relation.{Begins, PortsRefine, PipelineRefines, RefinesNext, HasLatches}
use Rattle.pipe_model.specs.PipelineLaws.{StepRefines, StartRefines, empty, first_units}

pub kept_by : StepRefines →
    (s : Start) (c : ℕ) (p : StageRegisters) (u : State) (t : Ticked) → t ≡ step p u c →
    Begins s → PortsRefine s c u.ports → PipelineRefines s c p u → RefinesNext s c u.ports t
kept_by keeps s c p u t e begins shows refines = rw e (keeps s c p u begins shows refines)

-- the same where the stage registers are equal to others before and after the cycle
pub kept_as : StepRefines →
    (s : Start) (c : ℕ) (first p last q : StageRegisters) (u after : State) (event : Option Event) →
    p ≡ first → last ≡ q →
    (let t : Ticked = record { stage_registers = q; state = after; event = event } in
    t ≡ step p u c) →
    Begins s → PortsRefine s c u.ports → PipelineRefines s c first u →
    (let t : Ticked = record { stage_registers = last; state = after; event = event } in
    RefinesNext s c u.ports t)
kept_as keeps s c first p last q u after event before behind e begins shows refines =
    rw behind (kept_by keeps s c p u _ e begins shows (rw before refines))

-- an empty pipeline at the pcs of a world's threads refines its start
pub starts_at : StartRefines → (next : List ℕ) (s : Start) (ports : List (Option Row)) →
    Begins s → HasLatches (start_world s) ports →
    map (λ t. t.pc) s.threads ≡ next → PipelineRefines s 0 (empty next) (first_units s ports)
starts_at starts next s ports begins latches e = rw (← e) (starts s ports begins latches)
