-- The requests of a command to the files, with their order and limits.
use Rattle.std.specs.Prelude.{◌≡◌, ◌⊎◌, ℕ, ◌*◌, List, [], ◌∷◌, ◌++◌, Option, Some, None}
use Rattle.fp_io.specs.Content.{HasRequested, FileMap, Request}
use Rattle.command_line.specs.declared.asked.Ask.{Ask}
use Rattle.command_line.specs.declared.asked.Ask.TheVariants.{Run, Dump, Asm, Bound, Selfrun}
use Rattle.command_line.specs.declared.asked.Ask.TheVariants.{Phases, Solo, Check, Elf, Calls}
use Rattle.region_tree.specs.declared.section.Section.{Section}
use Rattle.commands.specs.declared.program.Program.{Program}
use Rattle.commands.specs.Program.{IsProgramAsked, program, program_requests}
use Rattle.commands.specs.Stops.{FindsNone, IsMadeBy}
use Rattle.commands.specs.Assembled.{source_request}
use Rattle.commands.specs.BoundAnswer.{section_fault}
use Rattle.commands.specs.CallsAnswer.{routines_request}
use Rattle.commands.specs.Elf.{executable_request}
use Rattle.flexpret_top.specs.SoloAndCheck.{alone_program}

-- the request to the files for a recorded trace of so many cycles
abbrev pub trace_request : List ℕ → ℕ → Request
trace_request name cycles = (name, 60 * cycles)

-- a program, and then a recorded trace of a thread that can be run from only its view
pub record IsTraceAsked (contents : Option FileMap) (setup : List ℕ) (thread cycles : ℕ)
    (trace : List ℕ) (before after : Option (List Request)) : Type 0 where
  pub made : Program
  pub is : IsMadeBy contents (λ files. alone_program files setup thread) made
  pub asks : HasRequested before after
      (program_requests setup made.setup ++ (trace_request trace cycles ∷ []))

-- a program, and then the routines of a section whose bound can be requested
pub record AreRoutinesAsked (contents : Option FileMap) (setup : List ℕ) (thread : ℕ)
    (section : Section) (routines : List ℕ) (before after : Option (List Request)) : Type 0 where
  pub made : Program
  pub is : IsMadeBy contents (λ files. program files setup) made
  pub right : section_fault made.setup thread section ≡ None
  pub asks : HasRequested before after
      (program_requests setup made.setup ++ (routines_request routines ∷ []))

abbrev pub IsAsked : Ask → Option FileMap → Option (List Request) → Option (List Request) → Type 0
IsAsked (Run setup thread cycles) contents before after = IsProgramAsked contents setup before after
IsAsked (Dump setup cycles) contents before after = IsProgramAsked contents setup before after
IsAsked (Asm source) contents before after = HasRequested before after (source_request source ∷ [])
IsAsked (Bound setup thread section) contents before after = IsProgramAsked contents setup
    before after
IsAsked (Selfrun number) contents before after = after ≡ before
IsAsked (Phases setup cycles) contents before after = IsProgramAsked contents setup before after
IsAsked (Solo setup thread cycles) contents before after = IsProgramAsked contents setup
    before after
IsAsked (Check setup thread cycles trace) contents before after =
    IsProgramAsked contents setup before after
    ⊎ IsTraceAsked contents setup thread cycles trace before after
IsAsked (Elf file) contents before after = HasRequested before after (executable_request file ∷ [])
IsAsked (Calls setup thread section routines) contents before after =
    IsProgramAsked contents setup before after
    ⊎ AreRoutinesAsked contents setup thread section routines before after

-- by a command line that ended with a status: nothing at all if it is a usage error, or if memory
-- ran out for its arguments
abbrev pub IsAskedBy : Option Ask → Option FileMap → ℕ → Option (List Request) →
    Option (List Request) → Type 0
IsAskedBy None contents status before after = after ≡ before
IsAskedBy (Some asked) contents status before after =
    ((status ≡ 9) × (after ≡ before)) ⊎ IsAsked asked contents before after

-- the files, which look a name up first, are known to lack the one that a command requests first
abbrev pub LacksFirst : Type 0 → Ask → Option FileMap → Type 0
LacksFirst looks (Run setup thread cycles) contents = FindsNone looks contents setup
LacksFirst looks (Dump setup cycles) contents = FindsNone looks contents setup
LacksFirst looks (Asm source) contents = FindsNone looks contents source
LacksFirst looks (Bound setup thread section) contents = FindsNone looks contents setup
LacksFirst looks (Selfrun number) contents = ⊥
LacksFirst looks (Phases setup cycles) contents = FindsNone looks contents setup
LacksFirst looks (Solo setup thread cycles) contents = FindsNone looks contents setup
LacksFirst looks (Check setup thread cycles trace) contents = FindsNone looks contents setup
LacksFirst looks (Elf file) contents = FindsNone looks contents file
LacksFirst looks (Calls setup thread section routines) contents = FindsNone looks contents setup

-- a command line that requests a file first, where the files are known to have none of its name
abbrev pub LacksFirstBy : Type 0 → Option Ask → Option FileMap → Type 0
LacksFirstBy looks None contents = ⊥
LacksFirstBy looks (Some asked) contents = LacksFirst looks asked contents
