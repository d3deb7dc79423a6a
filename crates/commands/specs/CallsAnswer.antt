-- The answer to `calls`: why there is none, or the bound of a section of a program through the
-- routines that a file lists.
use Rattle.std.specs.Prelude.{◌≡◌, ◌⊎◌, ◌<◌, ◌≤◌, ◌^◌, ℕ, List, [], Option}
use Rattle.std.specs.Prelude.{Some, None, Result, Ok, Err, option_map, ◌*◌}
use Rattle.fp_io.specs.Content.{Request}
use Rattle.fp_setup.specs.Settings.{size_of}
use Rattle.fp_image.specs.Rules.{word}
use Rattle.region_tree.specs.declared.section.Section.{Section}
use Rattle.call_bounds.specs.Routines.{most_routines}
use Rattle.call_bounds.specs.RoutinesFile.{line_length, routines_of}
use Rattle.call_bounds.specs.declared.routines_refusals.RoutinesRefused.{RoutinesRefused}
use Rattle.call_bounds.specs.declared.routines_refusals.RoutinesRefused.TheVariants.{Fault}
use Rattle.call_bounds.specs.declared.routines_refusals.RoutinesRefused.TheVariants.{NoMemory}
use Rattle.call_bounds.specs.declared.routines.Routine.{Routine}
use Rattle.call_bounds.specs.CallRefusals.{IsCallable, IsListing}
use Rattle.call_bounds.specs.CallRefused.{IsCallRefused}
use Rattle.call_bounds.specs.CallWalk.{CostsOf, IsCallBound, route}
use Rattle.call_bounds.specs.Listing.{Listing, calls, listing_of}
use Rattle.call_bounds.specs.declared.tree.CallNo.{CallNo}
use Rattle.trace_print.specs.Bounds.{bound_text}
use Rattle.trace_print.specs.declared.refusals.Refusal.TheVariants as refusal
use Rattle.commands.specs.declared.program.Program.{Program}
use Rattle.commands.specs.declared.codes.BoundCode.TheVariants.{Overflow}
use Rattle.commands.specs.declared.codes.SectionNo.{SectionNo}
use Rattle.commands.specs.Codes.{bound_refused, call_refusal, routines_code, section_code}
use Rattle.commands.specs.Answer.{Answer, over_file, refusal_answer}
use Rattle.commands.specs.Answer.Answer.{Says}
use Rattle.commands.specs.BoundAnswer.{section_fault}

-- by its definition a list of routines is never refused because memory ran out
abbrev pub of_routines : Result (List Routine) RoutinesRefused → Result (List Routine) Answer
of_routines (Ok routines) = Ok routines
of_routines (Err (Fault line code)) =
    Err (refusal_answer (refusal.Routines line (routines_code code)))
of_routines (Err NoMemory) = Err (Says 9 [])

-- the request to the files for a list of routines: the bytes of the most lines that it may have
abbrev pub routines_request : List ℕ → Request
routines_request name = (name, most_routines * line_length)

-- the routines of a file's bytes, for scratchpads of a size
unfoldable pub routines_in : ℕ → List ℕ → Result (List Routine) Answer
routines_in size bytes = of_routines (routines_of size bytes)

-- the section with the routines, the program's words, and all loops of the setup
abbrev pub section_listing : Program → Section → List Routine → Listing
section_listing p section routines = listing_of (word p.image) section routines p.setup.loops

-- it is refused
pub record IsListingRefused (l : Listing) (x : Answer) : Type 0 where
  pub no : CallNo
  pub is : IsCallRefused (calls l) no
  pub line : Some x ≡ option_map refusal_answer (call_refusal no)

-- a path with matching calls and returns through it that keeps the loops' bounds costs more cycles
-- than 64 bits hold
pub record IsTooLargeByCalls (l : Listing) (slots i : ℕ) (x : Answer) : Type 0 where
  pub accepted : IsCallable (calls l)
  pub cycles : ℕ
  pub is : CostsOf (route (calls l) slots i) cycles
  pub large : 2 ^ 64 ≤ cycles
  pub line : x ≡ refusal_answer (bound_refused Overflow (2 ^ 64))

-- it has a bound: the largest cost of such a path, by the turns of the thread
pub record IsBoundedByCalls (l : Listing) (slots i : ℕ) (x : Answer) : Type 0 where
  pub listing : IsListing (calls l)
  pub accepted : IsCallable (calls l)
  pub cycles : ℕ
  pub is : IsCallBound (route (calls l) slots i) cycles
  pub small : cycles < 2 ^ 64
  pub line : x ≡ Says 0 (bound_text cycles)

abbrev pub IsListingAnswer : Listing → ℕ → ℕ → Answer → Type 0
IsListingAnswer l slots i x =
    IsListingRefused l x ⊎ (IsTooLargeByCalls l slots i x ⊎ IsBoundedByCalls l slots i x)

-- the answer for the routines, or the answer that came before them
abbrev pub IsRoutinesAnswer : Program → ℕ → Section → Result (List Routine) Answer → Answer → Type 0
IsRoutinesAnswer p i section (Err before) x = x ≡ before
IsRoutinesAnswer p i section (Ok routines) x =
    IsListingAnswer (section_listing p section routines) p.setup.slots i x

-- the file of routines counts only if the section's bound can be requested
abbrev pub IsSectionCallsAnswer : Program → ℕ → Section → Option (List ℕ) →
    Option SectionNo → Answer → Type 0
IsSectionCallsAnswer p i section file (Some fault) x =
    x ≡ refusal_answer (refusal.Section (section_code fault))
IsSectionCallsAnswer p i section file None x =
    IsRoutinesAnswer p i section (over_file (routines_in (size_of p.setup.version)) file) x

-- the answer for a program, or the answer that came before it
abbrev pub IsCallsAnswer : Result Program Answer → ℕ → Section → Option (List ℕ) → Answer → Type 0
IsCallsAnswer (Err before) i section file x = x ≡ before
IsCallsAnswer (Ok p) i section file x =
    IsSectionCallsAnswer p i section file (section_fault p.setup i section) x
