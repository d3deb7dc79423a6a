-- The guarantees of a command's text for a thread, whatever code the seven others run.
use Rattle.std.specs.Prelude.{◌≡◌, ℕ, ◌-◌, ◌≤◌, List, Option, Some, Ok}
use Rattle.std.specs.Io.KnownBytes.{Appends}
use Rattle.fp_io.specs.Content.{FileMap}
use Rattle.region_guard.specs.MemoryMap.{large_size}
use Rattle.fp_ports.specs.PluggedPorts.{Row}
use Rattle.command_line.specs.declared.asked.Ask.{Ask}
use Rattle.command_line.specs.declared.asked.Ask.TheVariants.{Run, Bound, Solo, Elf, Calls}
use Rattle.bound_calc.specs.Bound.{IsBound, course}
use Rattle.call_bounds.specs.RoutinesFile.{routines_of}
use Rattle.call_bounds.specs.declared.routines.Routine.{Routine}
use Rattle.call_bounds.specs.CallRefusals.{IsCallable, IsListing}
use Rattle.call_bounds.specs.CallWalk.{IsCallBound, route}
use Rattle.call_bounds.specs.Listing.{calls}
use Rattle.visit_bounds.specs.CallVisits.{IsCallVisit, KeepsReturns}
use Rattle.visit_bounds.specs.CallVisits.{KeepsCallBounds}
use Rattle.core_model.specs.Solo.{solo}
use Rattle.fp_elf.specs.Elf.{elf_of}
use Rattle.fp_setup.specs.Rules.{KeepsRules}
use Rattle.fp_setup.specs.Settings.{size_of}
use Rattle.fp_image.specs.Format.{image_of}
use Rattle.fp_image.specs.declared.parts.Segment.{Segment}
use Rattle.region_tree.specs.Tree.{IsTree, graph}
use Rattle.region_tree.specs.declared.section.Section.{Section}
use Rattle.core_model.specs.Phased.{phased}
use Rattle.isolation.specs.RetiredTraces.{IsRetiredQuiet, KeepsRetiredRegions}
use Rattle.isolation.specs.TraceLaws.{Machine, IsConfinedHard, IsConfinedThrough}
use Rattle.isolation.specs.TraceLaws.{phases_in, trace, view_of}
use Rattle.visit_bounds.specs.InSettings.{Throughout}
use Rattle.visit_bounds.specs.SetupInSettings.{HasSameWords, HasSameWordsOfFunctions}
use Rattle.visit_bounds.specs.SetupInSettings.{IsSetIn}
use Rattle.visit_bounds.specs.SetupVisitBound.{issues}
use Rattle.trace_print.specs.Bounds.{bound_text}
use Rattle.trace_print.specs.Text.{text}
use Rattle.visit_bounds.specs.Visits.{Issued, IsVisit, KeepsBounds, first_of}
use Rattle.commands.specs.declared.program.Program.{Program}
use Rattle.commands.specs.BoundAnswer.{section_tree}
use Rattle.commands.specs.CallsAnswer.{section_listing}
use Rattle.commands.specs.Program.{program}

-- the machine of a program with the ports as they are handed in
abbrev pub machine_of : Program → List (Option Row) → Machine
machine_of p ports = record { setup = p.setup; image = p.image; ports = ports }

-- Isolation: `run` wrote the text of the one-thread definition over the thread's view. That is its
-- own code, slots, private memory and inputs. The thread is confined, and starts hard and active.
-- No issue that has retired writes a configuration register; those in flight after n cycles may.
--
-- A confined thread need not be hard if no setting of the run makes it soft and active. Then the
-- text is that of the definition over its view and these settings, which `phases` writes. No issue
-- that has retired may write a region register.
pub record IsIsolated (m : Machine) (i n : ℕ) (before after : Option (List ℕ)) : Type 0 where
  pub by_view : IsConfinedHard m i → IsRetiredQuiet m n →
      Appends before after (text (solo (view_of m i n) n))
  pub by_phases : IsConfinedThrough m i n → KeepsRetiredRegions m n →
      Appends before after (text (phased (view_of m i n) (phases_in m n) n))

abbrev pub WritesIsolated : Option Ask → FileMap → List (Option Row) → Option (List ℕ) →
    Option (List ℕ) → Type 0
WritesIsolated (Some (Run setup i n)) files ports before after =
    (p : Program) → program files setup ≡ Ok p →
    IsIsolated (machine_of p ports) i n before after
WritesIsolated _ files ports before after = Unit {0}

-- `solo` wrote the trace of the machine, which `run` writes. No issue that has retired may write a
-- configuration register.
abbrev pub WritesAsRun : Option Ask → FileMap → List (Option Row) → Option (List ℕ) →
    Option (List ℕ) → Type 0
WritesAsRun (Some (Solo setup i n)) files ports before after =
    (p : Program) → program files setup ≡ Ok p → IsRetiredQuiet (machine_of p ports) n →
    Appends before after (trace (machine_of p ports) i n)
WritesAsRun _ files ports before after = Unit {0}

-- `bound` wrote the line of a number of cycles. Some path through the section costs that number. No
-- visit of the section takes longer if it keeps the stated loop bounds. This holds in every run of
-- every machine whose setup keeps the rules, as each accepted one does. The words that the section
-- can reach must be the same. During the visit picking must use the setup's slots, with the thread
-- hard and active. Corollaries.antt has simpler premises.
pub record IsLongest (p : Program) (i : ℕ) (section : Section)
    (before after : Option (List ℕ)) : Type 0 where
  pub cycles : ℕ
  pub wrote : Appends before after (bound_text cycles)
  pub accepted : IsTree (section_tree p section)
  pub met : IsBound (course (section_tree p section) p.setup.slots i) cycles
  pub longest : (m : Machine) (n : ℕ) → KeepsRules m.setup →
      HasSameWords m (section_tree p section) p.image → (last : Issued) (earlier : List Issued) →
      Throughout (IsSetIn m i p.setup.slots n) (first_of last earlier).cycle last.cycle →
      IsVisit (graph (section_tree p section)) (issues m i n) last earlier →
      KeepsBounds (section_tree p section).loops last earlier →
      last.cycle - (first_of last earlier).cycle ≤ cycles

abbrev pub BoundsVisits : Option Ask → FileMap → Option (List ℕ) → Option (List ℕ) → Type 0
BoundsVisits (Some (Bound setup i section)) files before after =
    (p : Program) → program files setup ≡ Ok p → IsLongest p i section before after
BoundsVisits _ files before after = Unit {0}

-- `calls` wrote the line of a number of cycles. Some path with matching calls and returns through
-- the section and its routines, which keeps the loops' bounds, costs that number. No call visit of
-- the section takes longer if its returns match its calls and it keeps the stated loop bounds. The
-- premises are those of `bound`, for the words of all reached functions.
pub record IsLongestByCalls (p : Program) (i : ℕ) (section : Section) (file : List ℕ)
    (before after : Option (List ℕ)) : Type 0 where
  pub routines : List Routine
  pub listed : routines_of (size_of p.setup.version) file ≡ Ok routines
  pub cycles : ℕ
  pub wrote : Appends before after (bound_text cycles)
  pub listing : IsListing (calls (section_listing p section routines))
  pub accepted : IsCallable (calls (section_listing p section routines))
  pub met : IsCallBound (route (calls (section_listing p section routines)) p.setup.slots i) cycles
  pub longest : (m : Machine) (n : ℕ) → KeepsRules m.setup →
      HasSameWordsOfFunctions m (calls (section_listing p section routines)) →
      (last : Issued) (earlier : List Issued) →
      Throughout (IsSetIn m i p.setup.slots n) (first_of last earlier).cycle last.cycle →
      IsCallVisit (calls (section_listing p section routines)) (issues m i n) last earlier →
      KeepsReturns (calls (section_listing p section routines)) last earlier →
      KeepsCallBounds (calls (section_listing p section routines)) last earlier →
      last.cycle - (first_of last earlier).cycle ≤ cycles

abbrev pub BoundsCallVisits : Option Ask → FileMap → Option (List ℕ) → Option (List ℕ) → Type 0
BoundsCallVisits (Some (Calls setup i section routines)) files before after =
    (p : Program) (file : List ℕ) → program files setup ≡ Ok p → files routines ≡ Some file →
    IsLongestByCalls p i section file before after
BoundsCallVisits _ files before after = Unit {0}

-- `elf` wrote a file that reads, for scratchpads of 65,536 bytes, as the image that the executable
-- defines.
pub record IsImported (file : List ℕ) (before after : Option (List ℕ)) : Type 0 where
  pub image : List Segment
  pub defined : elf_of file ≡ Ok image
  pub bytes : List ℕ
  pub wrote : Appends before after bytes
  pub read_back : image_of large_size bytes ≡ Ok image

abbrev pub WritesImage : Option Ask → FileMap → Option (List ℕ) → Option (List ℕ) → Type 0
WritesImage (Some (Elf name)) files before after =
    (file : List ℕ) → files name ≡ Some file → IsImported file before after
WritesImage _ files before after = Unit {0}
