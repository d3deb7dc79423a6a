-- The answer of a command line over given files.
use Rattle.std.specs.Prelude.{◌≡◌, ◌⊎◌, ◌≤◌, ℕ, List, [], Option, Some, None, Ok}
use Rattle.machine.specs.Feeding.{IsFedPrefix, fed_all}
use Rattle.machine.specs.WorldRelation.{PortsAfter}
use Rattle.commands.specs.declared.program.Program.{Program}
use Rattle.fp_io.specs.Content.{FileMap}
use Rattle.command_line.specs.Commands.{ask}
use Rattle.command_line.specs.declared.asked.Ask.{Ask}
use Rattle.command_line.specs.declared.asked.Ask.TheVariants.{Run, Dump, Asm, Bound, Selfrun}
use Rattle.command_line.specs.declared.asked.Ask.TheVariants.{Phases, Solo, Check, Elf, Calls}
use Rattle.selfrun.specs.Text.{selfrun_text}
use Rattle.commands.specs.Answer.{Answer, IsSaid, WritesPrefix, IsAnswered}
use Rattle.commands.specs.Answer.Answer.{Says}
use Rattle.flexpret_top.specs.SoloAndCheck.{solo_answer, check_answer}
use Rattle.commands.specs.Assembled.{asm_answer}
use Rattle.commands.specs.BoundAnswer.{IsBoundAnswer}
use Rattle.commands.specs.CallsAnswer.{IsCallsAnswer}
use Rattle.commands.specs.Elf.{elf_answer}
use Rattle.commands.specs.Program.{program}
use Rattle.flexpret_top.specs.Run.{start_of, run_answer, dump_answer, phases_answer}
use Rattle.fp_ports.specs.PluggedPorts.{Row}

-- The answer of a command over the files and the ports as they are handed in. For `bound` and
-- `calls` it is a relation: a bound is the largest cost of a path.
abbrev pub IsAnswerOf : Ask → FileMap → List (Option Row) → Answer → Type 0
IsAnswerOf (Run setup thread cycles) files ports x = x ≡ run_answer files ports setup thread cycles
IsAnswerOf (Dump setup cycles) files ports x = x ≡ dump_answer files ports setup cycles
IsAnswerOf (Asm source) files ports x = x ≡ asm_answer files source
IsAnswerOf (Bound setup thread section) files ports x =
    IsBoundAnswer (program files setup) thread section x
IsAnswerOf (Selfrun number) files ports x = x ≡ Says 0 (selfrun_text number)
IsAnswerOf (Phases setup cycles) files ports x = x ≡ phases_answer files ports setup cycles
IsAnswerOf (Solo setup thread cycles) files ports x =
    x ≡ solo_answer files ports setup thread cycles
IsAnswerOf (Check setup thread cycles trace) files ports x =
    x ≡ check_answer files ports setup thread cycles trace
IsAnswerOf (Elf file) files ports x = x ≡ elf_answer files file
IsAnswerOf (Calls setup thread section routines) files ports x =
    IsCallsAnswer (program files setup) thread section (files routines) x

abbrev pub IsAnswerIn : Ask → List (Option Row) → FileMap → Answer → Type 0
IsAnswerIn asked ports files x = IsAnswerOf asked files ports x

abbrev pub IsAnswerTo : Option Ask → FileMap → List (Option Row) → Answer → Type 0
IsAnswerTo None files ports x = x ≡ Says 2 []
IsAnswerTo (Some asked) files ports x = IsAnswerOf asked files ports x

-- the answer of a command line
abbrev pub IsAnswer : List (List ℕ) → FileMap → List (Option Row) → Answer → Type 0
IsAnswer words files ports x = IsAnswerTo (ask words) files ports x

-- After so many cycles a port is there if it was handed in and isn't unplugged yet. It has the
-- latch of the world, and shows the same words as when it was handed in, with the setup's inputs
-- fed.
pub record HasLeftMachine (files : FileMap) (name : List ℕ) (n : ℕ)
    (before after : List (Option Row)) : Type 0 where
  pub made : Program
  pub is : program files name ≡ Ok made
  pub ports : PortsAfter (start_of made before n) n (fed_all made.setup before) after

-- the ports after a command with status 0
abbrev pub HasLeft : Ask → FileMap → List (Option Row) → List (Option Row) → Type 0
HasLeft (Run setup thread cycles) files before after = HasLeftMachine files setup cycles
    before after
HasLeft (Dump setup cycles) files before after = HasLeftMachine files setup cycles before after
HasLeft (Asm source) files before after = after ≡ before
HasLeft (Bound setup thread section) files before after = after ≡ before
HasLeft (Selfrun number) files before after = after ≡ before
HasLeft (Phases setup cycles) files before after = HasLeftMachine files setup cycles before after
HasLeft (Solo setup thread cycles) files before after = after ≡ before
HasLeft (Check setup thread cycles trace) files before after = after ≡ before
HasLeft (Elf file) files before after = after ≡ before
HasLeft (Calls setup thread section routines) files before after = after ≡ before

-- The same if the sink failed within the text: the ports are those after some of the cycles.
pub record HasLeftMachineInPart (files : FileMap) (name : List ℕ) (n : ℕ)
    (before after : List (Option Row)) : Type 0 where
  pub made : Program
  pub is : program files name ≡ Ok made
  pub cycles : ℕ
  pub within : cycles ≤ n
  pub ports : PortsAfter (start_of made before n) cycles (fed_all made.setup before) after

-- the ports after a text that was cut short
abbrev pub HasLeftInPart : Ask → FileMap → List (Option Row) → List (Option Row) → Type 0
HasLeftInPart (Run setup thread cycles) files before after =
    HasLeftMachineInPart files setup cycles before after
HasLeftInPart (Dump setup cycles) files before after = HasLeftMachine files setup cycles
    before after
HasLeftInPart (Phases setup cycles) files before after =
    HasLeftMachineInPart files setup cycles before after
HasLeftInPart _ files before after = after ≡ before

-- after status 8: a refusal's line leaves the ports as they were
abbrev pub HasLeftCutShort : Option Ask → FileMap → List (Option Row) → List (Option Row) → Type 0
HasLeftCutShort None files before after = after ≡ before
HasLeftCutShort (Some asked) files before after =
    (after ≡ before) ⊎ HasLeftInPart asked files before after

-- Some of the inputs of a setup were fed.
pub record IsFedInPart (files : FileMap) (name : List ℕ)
    (before after : List (Option Row)) : Type 0 where
  pub made : Program
  pub is : program files name ≡ Ok made
  pub fed : IsFedPrefix made.setup before after

-- the ports of a machine that wasn't run
abbrev pub IsUnrun : FileMap → List ℕ → List (Option Row) → List (Option Row) → Type 0
IsUnrun files name before after = (after ≡ before) ⊎ IsFedInPart files name before after

-- the ports if memory ran out, or a device refused an input
abbrev pub HasLeftFedInPart : Ask → FileMap → List (Option Row) → List (Option Row) → Type 0
HasLeftFedInPart (Run setup thread cycles) files before after = IsUnrun files setup before after
HasLeftFedInPart (Dump setup cycles) files before after = IsUnrun files setup before after
HasLeftFedInPart (Phases setup cycles) files before after = IsUnrun files setup before after
HasLeftFedInPart _ files before after = after ≡ before

-- after status 9
abbrev pub HasLeftUnrun : Option Ask → FileMap → List (Option Row) → List (Option Row) → Type 0
HasLeftUnrun None files before after = after ≡ before
HasLeftUnrun (Some asked) files before after = HasLeftFedInPart asked files before after

abbrev pub HasLeftBy : Option Ask → FileMap → List (Option Row) → List (Option Row) → Type 0
HasLeftBy None files before after = after ≡ before
HasLeftBy (Some asked) files before after = HasLeft asked files before after

-- a command that uses no port
abbrev pub UsesNoPort : Ask → Type 0
UsesNoPort (Run setup thread cycles) = ⊥
UsesNoPort (Dump setup cycles) = ⊥
UsesNoPort (Phases setup cycles) = ⊥
UsesNoPort (Solo setup thread cycles) = ⊥
UsesNoPort (Check setup thread cycles trace) = ⊥
UsesNoPort _ = Unit {0}

-- a command that only reads a port
abbrev pub OnlyReads : Ask → Type 0
OnlyReads (Solo setup thread cycles) = Unit {0}
OnlyReads (Check setup thread cycles trace) = Unit {0}
OnlyReads _ = ⊥

abbrev pub OnlyReadsBy : Option Ask → Type 0
OnlyReadsBy None = ⊥
OnlyReadsBy (Some asked) = OnlyReads asked

abbrev pub UsesNoPortBy : Option Ask → Type 0
UsesNoPortBy None = Unit {0}
UsesNoPortBy (Some asked) = UsesNoPort asked

-- a status belongs to such an answer, and its whole text was written
pub record Said (Is : Answer → Type 0) (status : ℕ) (before after : Option (List ℕ)) : Type 0 where
  pub answer : Answer
  pub is : Is answer
  pub said : IsSaid status before after answer

-- a prefix of the text of such an answer was written
pub record Began (Is : Answer → Type 0) (before after : Option (List ℕ)) : Type 0 where
  pub answer : Answer
  pub is : Is answer
  pub prefix : WritesPrefix before after answer

-- a status belongs to such an answer
pub record Answered (Is : Answer → Type 0) (status : ℕ) : Type 0 where
  pub answer : Answer
  pub is : Is answer
  pub answered : IsAnswered status answer
