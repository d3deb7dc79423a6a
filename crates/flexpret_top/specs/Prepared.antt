-- The text that a prepared command will write.
use Rattle.std.specs.Io.KnownBytes.{Appends}
use Rattle.std.specs.Prelude.{◌≡◌, ◌<◌, ◌≤◌, ℕ, List, Option, IfSome}
use Rattle.fp_io.specs.Content.{AppendsPrefix, FileMap}
use Rattle.fp_ports.specs.PluggedPorts.{Row}
use Rattle.command_line.specs.declared.asked.Ask.{Ask}
use Rattle.machine.specs.WorldRelation.{Refines, AreLeft, PortsAfter}
use Rattle.machine.specs.Feeding.{fed_all}
use Rattle.machine.specs.declared.state.Machine.{Machine}
use Rattle.machine.specs.DumpedState.{seen}
use Rattle.phase_log.specs.LoggedRuns.{StartsAs}
use Rattle.phase_log.specs.Text.{phases_text}
use Rattle.core_model.specs.Phases.{phases}
use Rattle.trace_print.specs.Bounds.{bound_text}
use Rattle.trace_print.specs.Text.{text}
use Rattle.core_model.specs.World.{Start, events}
use Rattle.commands.specs.declared.program.Program.{Program}
use Rattle.flexpret_top.specs.declared.ready.Ready.{Ready}
use Rattle.flexpret_top.specs.declared.ready.Prepared.{Prepared}
use Rattle.flexpret_top.specs.declared.ready.Prepared.TheVariants.{Trace, Dump, Phases, Solo}
use Rattle.flexpret_top.specs.declared.ready.Prepared.TheVariants.{Same, Image, Bound, Selfrun}
use Rattle.selfrun.specs.Text.{tallies_text}
use Rattle.flexpret_top.specs.SoloAndCheck.{same_text, told_alone}
use Rattle.commands.specs.Answer.Answer.{Says}
use Rattle.flexpret_top.specs.Command.{IsAnswerOf, HasLeft, HasLeftInPart}
use Rattle.commands.specs.Program.{program}
use Rattle.flexpret_top.specs.Run.{start_of}
use Rattle.std.specs.Prelude.{Ok}

-- a machine at its start that, with the fed ports, refines the world of a program and the ports as
-- they were handed in; that world starts with the slots and modes of the setup
pub record IsReady (files : FileMap) (name : List ℕ) (before after : List (Option Row))
    (r : Ready) : Type 0 where
  pub made : Program
  pub is : program files name ≡ Ok made
  pub fed : after ≡ fed_all made.setup before
  pub refines : Refines (start_of made before r.cycles) 0 r.cycles r.machine after
  pub starts : StartsAs (start_of made before r.cycles) r.setup

-- a machine at its start, which refines a world of its setup with these ports, and a text that this
-- world defines
pub record Runs (r : Ready) (ports : List (Option Row)) (contents : Start → List ℕ)
    (written : List ℕ) : Type 0 where
  pub start : Start
  pub refines : Refines start 0 r.cycles r.machine ports
  pub starts : StartsAs start r.setup
  pub text_is : written ≡ contents start

abbrev pub HasDelivered : Prepared → List (Option Row) → List ℕ → Type 0
HasDelivered (Trace r thread) ports written =
    Runs r ports (λ s. text (events s thread r.cycles)) written
HasDelivered (Dump r) ports written = Runs r ports (λ s. seen s r.cycles) written
HasDelivered (Phases r) ports written = Runs r ports (λ s. phases_text (phases s r.cycles)) written
HasDelivered (Solo alone) ports written = written ≡ told_alone alone ports
HasDelivered Same ports written = written ≡ same_text
HasDelivered (Image bytes) ports written = written ≡ bytes.items
HasDelivered (Bound cycles) ports written = written ≡ bound_text cycles
HasDelivered (Selfrun run) ports written = written ≡ tallies_text run.tallies

-- a requested thread is one of the eight
abbrev pub IsThread : Prepared → Type 0
IsThread (Trace r thread) = thread < 8
IsThread _ = Unit {0}

-- the ports after a run of a machine
abbrev pub HasLeftRun : Ready → List (Option Row) → List (Option Row) → Type 0
HasLeftRun r before after =
    (s : Start) → Refines s 0 r.cycles r.machine before → StartsAs s r.setup →
    PortsAfter s r.cycles before after

-- the ports after the text was written
abbrev pub HasLeftPorts : Prepared → List (Option Row) → List (Option Row) → Type 0
HasLeftPorts (Trace r thread) before after = HasLeftRun r before after
HasLeftPorts (Dump r) before after = HasLeftRun r before after
HasLeftPorts (Phases r) before after = HasLeftRun r before after
HasLeftPorts (Solo alone) before after = after ≡ before
HasLeftPorts Same before after = after ≡ before
HasLeftPorts (Image bytes) before after = after ≡ before
HasLeftPorts (Bound cycles) before after = after ≡ before
HasLeftPorts (Selfrun run) before after = after ≡ before

-- the ports after a run of a machine that the sink cut short: those after some of its cycles
pub record HasLeftSome (s : Start) (n : ℕ) (before after : List (Option Row)) : Type 0 where
  pub cycles : ℕ
  pub within : cycles ≤ n
  pub ports : PortsAfter s cycles before after

abbrev pub HasLeftPartOfRun : Ready → List (Option Row) → List (Option Row) → Type 0
HasLeftPartOfRun r before after =
    (s : Start) → Refines s 0 r.cycles r.machine before → StartsAs s r.setup →
    HasLeftSome s r.cycles before after

-- the ports if the sink failed
abbrev pub HasLeftPortsInPart : Prepared → List (Option Row) → List (Option Row) → Type 0
HasLeftPortsInPart (Trace r thread) before after = HasLeftPartOfRun r before after
HasLeftPortsInPart (Dump r) before after = HasLeftRun r before after
HasLeftPortsInPart (Phases r) before after = HasLeftPartOfRun r before after
HasLeftPortsInPart _ before after = after ≡ before

-- it uses no port
abbrev pub IsWithoutPort : Prepared → Type 0
IsWithoutPort (Trace r thread) = ⊥
IsWithoutPort (Dump r) = ⊥
IsWithoutPort (Phases r) = ⊥
IsWithoutPort (Solo alone) = ⊥
IsWithoutPort _ = Unit {0}

-- it only reads a port
abbrev pub OnlyReadsFor : Prepared → Type 0
OnlyReadsFor (Solo alone) = Unit {0}
OnlyReadsFor Same = Unit {0}
OnlyReadsFor _ = ⊥

-- it will write a text that answers the command, and leave the ports as the command does
pub record Prepares (asked : Ask) (files : FileMap) (before after : List (Option Row))
    (p : Prepared) : Type 0 where
  pub written : List ℕ
  pub delivers : HasDelivered p after written
  pub is : IsAnswerOf asked files before (Says 0 written)
  pub leaves : (last : List (Option Row)) → HasLeftPorts p after last →
      HasLeft asked files before last
  pub leaves_part : (last : List (Option Row)) → HasLeftPortsInPart p after last →
      HasLeftInPart asked files before last

-- the same where the files' contents are known
abbrev pub IsPrepared : Ask → Option FileMap → List (Option Row) → List (Option Row) →
    Prepared → Type 0
IsPrepared asked contents before after p = IfSome contents (λ files. Prepares asked files
    before after p)

-- and for any ports, which it doesn't change
abbrev pub IsPreparedApart : Ask → Option FileMap → Prepared → Type 0
IsPreparedApart asked contents p =
    IfSome contents (λ files. (ports : List (Option Row)) → Prepares asked files ports ports p)

-- the text that it will write was appended whole
abbrev pub WritesAll : Prepared → List (Option Row) → Option (List ℕ) → Option (List ℕ) → Type 0
WritesAll p ports before after =
    (written : List ℕ) → HasDelivered p ports written → Appends before after written

-- a prefix of it was appended
abbrev pub WritesPart : Prepared → List (Option Row) → Option (List ℕ) → Option (List ℕ) → Type 0
WritesPart p ports before after =
    (written : List ℕ) → HasDelivered p ports written → AppendsPrefix before after written

-- after so many cycles, machine and ports refine that cycle of the world, and the ports that are
-- left show the same words as before
pub record Gone (s : Start) (n : ℕ) (first : List (Option Row)) (m : Machine)
    (ports : List (Option Row)) : Type 0 where
  pub refines : Refines s n n m ports
  pub left : AreLeft first ports
