-- A run of a machine: its loop over cycles works on the stage registers as the stages use them.
use Rattle.std.specs.Prelude.{◌≡◌, ℕ, ◌+◌, ◌-◌, ◌<◌, ◌≤◌, List, Option, Some, None, is_some}
use Rattle.std.specs.Prelude.{Result, OnOk, IfErr}
use Rattle.std.specs.List.{list_any}
use Rattle.fp_ports.specs.PluggedPorts.{Row}
use Rattle.core_model.specs.Delays.{cycles_to_m}
use Rattle.core_model.specs.World.{Start}
use Rattle.pipe_model.specs.Stages.{StageRegisters}
use Rattle.pipe_model.specs.declared.stage_registers.Held.{Held}
use Rattle.pipe_model.specs.declared.stage_registers.Held.TheVariants.{Issue}
use Rattle.pipe_model.specs.declared.stage_registers.Written.{Written}
use Rattle.pipeline_core.specs.declared.stages.Stages.{Stages}
use Rattle.pipeline_core.specs.Abstraction.{registers_in}
use Rattle.pipeline_core.specs.StageFacts.{WrittenFits}
use Rattle.machine.specs.declared.state.Machine.{Machine}
use Rattle.machine.specs.declared.run.Run.{Run}
use Rattle.machine.specs.declared.leaving.Leaving.{Leaving}
use Rattle.machine.specs.Observing.{Acts, HasSeen, SawInPart, next_with, puts_with, retires}
use Rattle.machine.specs.WorldRelation.{AreLeft, RefinesWith}

-- a run knows whether any port is ever removed
abbrev pub KnowsPorts : Run → Type 0
KnowsPorts run = run.loses_ports ≡ list_any is_some run.machine.now.unplugs

-- a run of the same machine, with the same stage registers
pub record IsSameRun (old new : Run) : Type 0 where
  pub machine : new.machine.ghost_name ≡ old.machine.ghost_name
  pub stages : new.stages.ghost_name ≡ old.stages.ghost_name
  pub loses : new.loses_ports ≡ old.loses_ports
  pub unplugs : new.machine.now.unplugs ≡ old.machine.now.unplugs

-- the turn in w that an issue leaves
abbrev pub turn_of : Leaving → Held Written
turn_of x = Issue x.thread (record { pc = x.pc; word = x.word })

-- With some turn in w, the machine with these stage registers and the ports refines its cycle. The
-- observer saw the cycles from c on, and its bytes were put.
pub record Runs {O : Type 0} (acts : Acts O) (s : Start) (c n : ℕ) (first : O) (stages : Stages)
    (m : Machine) (ports : List (Option Row)) (now : O) (before after : Option (List ℕ)) :
    Type 0 where
  pub w : Held Written
  pub refines : RefinesWith s m.at n (registers_in stages w) m ports
  pub seen : HasSeen acts s c m.at first now before after

-- The same before the observer puts its bytes of the last cycle, which are ready.
pub record Pauses {O : Type 0} (acts : Acts O) (s : Start) (c n : ℕ) (first : O)
    (p : StageRegisters) (m : Machine) (ports : List (Option Row)) (now : O)
    (before after : Option (List ℕ)) : Type 0 where
  pub refines : RefinesWith s m.at n p m ports
  pub some : c < m.at
  pub last : O
  pub earlier : HasSeen acts s c (m.at - 1) first last before after
  pub is : now ≡ next_with acts last (retires s (m.at - 1))
  pub ready : puts_with acts last (retires s (m.at - 1)) ≡ acts.ready now

-- a run up to a put, with its turn in w, or up to its end
abbrev pub Advanced : {O : Type 0} → Acts O → Start → ℕ → ℕ → O → Stages → Machine →
    List (Option Row) → O → Option (List ℕ) → Option (List ℕ) → Option Leaving → Type 0
Advanced acts s c n first stages m ports now before after None =
    Runs acts s c n first stages m ports now before after
Advanced acts s c n first stages m ports now before after (Some x) =
    Pauses acts s c n first (registers_in stages (turn_of x)) m ports now before after

-- a run whose last put failed
pub record Stops {O : Type 0} (acts : Acts O) (s : Start) (c n : ℕ) (first : O)
    (p : StageRegisters) (m : Machine) (ports : List (Option Row))
    (before after : Option (List ℕ)) : Type 0 where
  pub refines : RefinesWith s m.at n p m ports
  pub seen : SawInPart acts s c m.at first before after

-- A run goes on to later stage registers, machine and ports, by cycles before `end`. Without an
-- error it is a run as before. An error is the turn in w after the cycle of a put that failed.
pub record RunsOn {O T : Type 0} (acts : Acts O) (end : ℕ) (result : Result T (Held Written))
    (run later : Run) (ports left : List (Option Row)) (o now : O) (taken after : Option (List ℕ)) :
    Type 0 where
  pub ok : OnOk result ((s : Start) (c n : ℕ) (first : O) (before : Option (List ℕ)) →
      end ≤ n + cycles_to_m →
      Runs acts s c n first run.stages.now run.machine.now ports o before taken →
      Runs acts s c n first later.stages.now later.machine.now left now before after)
  pub err : IfErr result (λ w. (s : Start) (c n : ℕ) (first : O) (before : Option (List ℕ)) →
      end ≤ n + cycles_to_m →
      Runs acts s c n first run.stages.now run.machine.now ports o before taken →
      Stops acts s c n first (registers_in later.stages.now w) later.machine.now left before after)
  pub fits : IfErr result WrittenFits
  pub same : IsSameRun run later
  pub within : later.machine.now.at ≤ end
  pub words : AreLeft ports left
