-- The bound of a thread's section beside any load.
use Rattle.std.specs.Prelude.{◌≡◌, ℕ, ◌-◌, ◌≤◌, List, Option, Some, Ok, IfSome}
use Rattle.flexpret_top.specs.Ask.TheVariants.{Bound, Calls}
use Rattle.flexpret_top.specs.Bounds.{bound_text}
use Rattle.flexpret_top.specs.BoundAnswer.{section_tree}
use Rattle.flexpret_top.specs.CallsAnswer.{section_listing}
use Rattle.flexpret_top.specs.CallVisits.{IsCallVisit, KeepsCallBounds, KeepsReturns}
use Rattle.flexpret_top.specs.Commands.{ask}
use Rattle.flexpret_top.specs.Content.{FileMap}
use Rattle.flexpret_top.specs.Headline.{machine_of}
use Rattle.flexpret_top.specs.Listing.{calls}
use Rattle.flexpret_top.specs.LoadedProgram.{Program}
use Rattle.flexpret_top.specs.PluggedPorts.{Row}
use Rattle.flexpret_top.specs.Program.{program}
use Rattle.flexpret_top.specs.Routine.{Routine}
use Rattle.flexpret_top.specs.RoutinesFile.{routines_of}
use Rattle.flexpret_top.specs.Section.{Section}
use Rattle.flexpret_top.specs.Settings.{size_of}
use Rattle.flexpret_top.specs.SetupInSettings.{HasSameWords, HasSameWordsOfFunctions}
use Rattle.flexpret_top.specs.SetupInSettings.{KeepsScheduling, StartsHard}
use Rattle.flexpret_top.specs.SetupVisitBound.{issues}
use Rattle.flexpret_top.specs.TraceLaws.{Machine}
use Rattle.flexpret_top.specs.Tree.{graph}
use Rattle.flexpret_top.specs.Visits.{Issued, IsVisit, KeepsBounds, first_of}

-- A load of a program's thread i: the setup of any files, in which the thread has the program's
-- slots and is hard and active, with an image and ports. No issue of n cycles writes slots or
-- modes. The other threads, and the rest of setup and image, are arbitrary.
pub record IsLoad (p : Program) (i : ℕ) (files : FileMap) (name : List ℕ) (q : Program)
    (ports : List (Option Row)) (n : ℕ) : Type 0 where
  pub found : program files name ≡ Ok q
  pub hard : StartsHard (machine_of q ports) i p.setup.slots
  pub kept : KeepsScheduling (machine_of q ports) n

-- The bytes are the line of a number of cycles. No visit of the section takes longer beside any
-- load whose image has the same words that the section can reach, if it keeps the loops' bounds.
pub record BoundsBeside (p : Program) (i : ℕ) (section : Section) (bytes : List ℕ) : Type 0 where
  pub cycles : ℕ
  pub text : bytes ≡ bound_text cycles
  pub beside : (files : FileMap) (name : List ℕ) (q : Program) (ports : List (Option Row)) (n : ℕ) →
      IsLoad p i files name q ports n →
      HasSameWords (machine_of q ports) (section_tree p section) p.image →
      (last : Issued) (earlier : List Issued) → IsVisit (graph (section_tree p section))
      (issues (machine_of q ports) i n) last earlier →
      KeepsBounds (section_tree p section).loops last earlier →
      last.cycle - (first_of last earlier).cycle ≤ cycles

-- the same for call visits whose returns match, of a section with the routines of a file
pub record BoundsCallsBeside (p : Program) (i : ℕ) (section : Section) (file bytes : List ℕ) :
    Type 0 where
  pub cycles : ℕ
  pub text : bytes ≡ bound_text cycles
  pub routines : List Routine
  pub listed : routines_of (size_of p.setup.version) file ≡ Ok routines
  pub beside : (files : FileMap) (name : List ℕ) (q : Program) (ports : List (Option Row)) (n : ℕ) →
      IsLoad p i files name q ports n →
      HasSameWordsOfFunctions (machine_of q ports) (calls (section_listing p section routines)) →
      (last : Issued) (earlier : List Issued) →
      IsCallVisit (calls (section_listing p section routines))
      (issues (machine_of q ports) i n) last earlier →
      KeepsReturns (calls (section_listing p section routines)) last earlier →
      KeepsCallBounds (calls (section_listing p section routines)) last earlier →
      last.cycle - (first_of last earlier).cycle ≤ cycles

-- If the arguments request the bound of a section, or of one with routines, the bytes bound it
-- beside any load.
pub record IsBoundBeside (contents : Option FileMap) (words : List (List ℕ)) (bytes : List ℕ) :
    Type 0 where
  pub of_section : IfSome contents (λ files. (setup : List ℕ) (i : ℕ) (section : Section)
      (p : Program) → ask words ≡ Some (Bound setup i section) → program files setup ≡ Ok p →
      BoundsBeside p i section bytes)
  pub of_calls : IfSome contents (λ files. (setup : List ℕ) (i : ℕ) (section : Section)
      (routines file : List ℕ) (p : Program) → ask words ≡ Some (Calls setup i section routines) →
      program files setup ≡ Ok p → files routines ≡ Some file →
      BoundsCallsBeside p i section file bytes)
