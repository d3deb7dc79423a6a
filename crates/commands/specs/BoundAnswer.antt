-- The answer to `bound`: why there is none, or the bound of a section of a program.
use Rattle.std.specs.Prelude.{◌≡◌, ◌⊎◌, ◌<◌, ◌≤◌, ◌^◌, ℕ, ◌==◌, ◌%◌, nat_le, nat_lt, not, ◌&&◌}
use Rattle.std.specs.Prelude.{if◌then◌else◌, Bool, Option, Some, None, Result, Ok, Err, option_map}
use Rattle.std.specs.List.{list_any}
use Rattle.slot_table.specs.Nibbles.{nibbles}
use Rattle.slot_scheduler.specs.ModeWord.{mode_of}
use Rattle.fp_setup.specs.Settings.{Settings, size_of}
use Rattle.fp_image.specs.Rules.{word}
use Rattle.region_tree.specs.declared.section.Section.{Section}
use Rattle.region_tree.specs.declared.tree.TreeNo.{TreeNo}
use Rattle.region_tree.specs.Refusals.{IsRefused}
use Rattle.region_tree.specs.Tree.{IsTree, Tree, graph, tree_of}
use Rattle.bound_calc.specs.Bound.{IsBound, course}
use Rattle.trace_print.specs.Bounds.{bound_text}
use Rattle.trace_print.specs.declared.refusals.Refusal.TheVariants as refusal
use Rattle.commands.specs.declared.codes.BoundCode.TheVariants.{Overflow}
use Rattle.commands.specs.declared.codes.SectionNo.{SectionNo}
use Rattle.commands.specs.declared.codes.SectionNo.TheVariants.{NotHard, NoSlot, Order}
use Rattle.commands.specs.declared.codes.SectionNo.TheVariants.{Misaligned, Outside}
use Rattle.commands.specs.declared.program.Program.{Program}
use Rattle.commands.specs.Codes.{bound_refused, section_code, tree_refusal}
use Rattle.commands.specs.Answer.{Answer, refusal_answer}
use Rattle.commands.specs.Answer.Answer.{Says}

-- whether a slot of the register is assigned to a thread
abbrev pub names : ℕ → ℕ → Bool
names slots i = list_any (λ slot. slot == i) (nibbles slots)

-- Why the bound of a section can't be requested, if so: the thread isn't hard and awake; it has no
-- slot; the section is empty or ends before it begins; its ends aren't multiples of four; or it
-- ends past the instruction scratchpad. The first that holds counts.
unfoldable pub section_fault : Settings → ℕ → Section → Option SectionNo
section_fault s i section =
    if not (mode_of s.modes i == 0) then Some NotHard
    else if not (names s.slots i) then Some NoSlot
    else if nat_le section.to section.from then Some Order
    else if not (section.from % 4 == 0 && section.to % 4 == 0) then Some Misaligned
    else if nat_lt (size_of s.version) section.to then Some Outside
    else None

-- the section's words with the loops that count in it
abbrev pub section_tree : Program → Section → Tree
section_tree p section = tree_of (word p.image) section p.setup.loops

-- it is refused
pub record IsTreeRefused (t : Tree) (x : Answer) : Type 0 where
  pub no : TreeNo
  pub is : IsRefused (graph t) no
  pub line : Some x ≡ option_map refusal_answer (tree_refusal no)

-- it has a bound, but of more than 64 bits
pub record IsTooLarge (t : Tree) (slots i : ℕ) (x : Answer) : Type 0 where
  pub accepted : IsTree t
  pub cycles : ℕ
  pub is : IsBound (course t slots i) cycles
  pub large : 2 ^ 64 ≤ cycles
  pub line : x ≡ refusal_answer (bound_refused Overflow cycles)

-- it has a bound: the largest cost of a path through it that keeps the loops' bounds, by the turns
-- of the thread
pub record IsBounded (t : Tree) (slots i : ℕ) (x : Answer) : Type 0 where
  pub accepted : IsTree t
  pub cycles : ℕ
  pub is : IsBound (course t slots i) cycles
  pub small : cycles < 2 ^ 64
  pub line : x ≡ Says 0 (bound_text cycles)

abbrev pub IsTreeAnswer : Tree → ℕ → ℕ → Answer → Type 0
IsTreeAnswer t slots i x = IsTreeRefused t x ⊎ (IsTooLarge t slots i x ⊎ IsBounded t slots i x)

abbrev pub IsSectionAnswer : Program → ℕ → Section → Option SectionNo → Answer → Type 0
IsSectionAnswer p i section (Some fault) x =
    x ≡ refusal_answer (refusal.Section (section_code fault))
IsSectionAnswer p i section None x = IsTreeAnswer (section_tree p section) p.setup.slots i x

-- the answer for a program, or the answer that came before it
abbrev pub IsBoundAnswer : Result Program Answer → ℕ → Section → Answer → Type 0
IsBoundAnswer (Err before) i section x = x ≡ before
IsBoundAnswer (Ok p) i section x = IsSectionAnswer p i section (section_fault p.setup i section) x
