-- The answers for a section that has no bound.
use Rattle.std.proofs.Common.{◌≡◌, ◌<◌, ℕ, ◌==◌, Bool, true, false, Option, Some, None, List}
use Rattle.std.proofs.Common.{[], ◌∷◌, filter, refl, sym, arith, ◌%◌, ◌≤◌, ◌^◌, ap₂, subst}
use Rattle.std.proofs.Common.{not, ◌&&◌, ◌||◌, nat_le, nat_lt, if◌then◌else◌, inl, inr}
use Rattle.std.proofs.lemmas.Bool.Decides.{nat_tests}
use Rattle.std.proofs.lemmas.Bool.{cases_Bool}
use Rattle.std.specs.List.{Contains, list_any}
use Rattle.bound_calc.proofs.Outermost.{cons-first, cons-rest}
use Rattle.slot_table.specs.Nibbles.{nibbles}
use Rattle.slot_table.specs.Frame.{is_used, frame}
use Rattle.fp_setup.specs.Settings.{Settings, size_of}
use Rattle.region_tree.specs.declared.section.Section.{Section}
use Rattle.region_tree.specs.Tree.{IsSection}
use Rattle.slot_scheduler.specs.ModeWord.{mode_of}
use Rattle.commands.specs.declared.codes.SectionNo.{SectionNo}
use Rattle.commands.specs.declared.codes.SectionNo.TheVariants.{NotHard, NoSlot, Order}
use Rattle.commands.specs.declared.codes.SectionNo.TheVariants.{Misaligned, Outside}
use Rattle.commands.specs.BoundAnswer.{names, section_fault}
use Rattle.region_tree.specs.declared.tree.TreeNo.{TreeNo}
use Rattle.region_tree.specs.declared.tree.TreeNo.TheVariants as in_tree
use Rattle.region_tree.specs.Refusals.{IsRefused}
use Rattle.region_tree.specs.Tree.{IsTree, Tree, graph}
use Rattle.bound_calc.specs.Bound.{IsBound, IsTooLarge, course}
use Rattle.bound_calc.specs.declared.cycle_bound.BoundNo.{BoundNo}
use Rattle.bound_calc.specs.declared.cycle_bound.BoundNo.TheVariants as in_bound
use Rattle.trace_print.specs.Bounds.{bound_text}
use Rattle.commands.specs.Answer.Answer.{Says}
use Rattle.commands.specs.BoundAnswer.{IsTreeAnswer, IsTreeRefused}
use Rattle.commands.specs.declared.stop.CommandStop.{CommandStop}
use Rattle.commands.specs.declared.stop.CommandStop.TheVariants.{Refused, Differs, Read, NoMemory}
use Rattle.commands.specs.Stops.{IsAnswerStop}
use Rattle.commands.specs.BoundStops.{stop_of_bound, stop_of_tree}

pub tree_stops : (t : Tree) (no : TreeNo) → IsRefused (graph t) no →
    IsAnswerStop (IsTreeRefused t) (stop_of_tree no)
tree_stops t (in_tree.Nesting address) is =
    record { no = in_tree.Nesting address; is = is; line = refl }
tree_stops t (in_tree.IndirectJump address) is =
    record { no = in_tree.IndirectJump address; is = is; line = refl }
tree_stops t (in_tree.TimedWait address) is =
    record { no = in_tree.TimedWait address; is = is; line = refl }
tree_stops t (in_tree.UnboundedBackEdge address) is =
    record { no = in_tree.UnboundedBackEdge address; is = is; line = refl }
tree_stops t in_tree.NoMemory is = tt

-- the answer for a refused tree
pub refused_stops : (t : Tree) (slots i : ℕ) (stop : CommandStop) →
    IsAnswerStop (IsTreeRefused t) stop →
    IsAnswerStop (IsTreeAnswer t slots i) stop
refused_stops t slots i (Refused refusal) is = inl is
refused_stops t slots i (Differs line) is = inl is
refused_stops t slots i Read is = is
refused_stops t slots i NoMemory is = tt

-- the bound of a tree for a word of slots, if these are the section's slots and words
pub bound_told : (t section : Tree) (word slots i cycles : ℕ) →
    t ≡ section → word ≡ slots → IsTree section → cycles < 2 ^ 64 →
    IsBound (course t word i) cycles → IsTreeAnswer section slots i (Says 0 (bound_text cycles))
bound_told t section word slots i cycles same_tree same_slots accepted small is =
    let same = ap₂ (λ (t : Tree) (w : ℕ). course t w i) same_tree same_slots in
    inr (inr (record {
      accepted = accepted;
      cycles = cycles;
      is = subst (λ x. IsBound x cycles) same is;
      small = small;
      line = refl;
    }))

pub bound_stops : (t section : Tree) (word slots i : ℕ) (no : BoundNo) →
    t ≡ section → word ≡ slots → IsTree section →
    IsTooLarge (course t word i) no → IsAnswerStop (IsTreeAnswer section slots i) (stop_of_bound no)
bound_stops t section word slots i (in_bound.Overflow value) same_tree same_slots accepted is =
    let same = ap₂ (λ (t : Tree) (w : ℕ). course t w i) same_tree same_slots in
    inr (inl (record {
      accepted = accepted;
      cycles = value;
      is = subst (λ x. IsBound x value) same is.0;
      large = is.1;
      line = refl;
    }))
bound_stops t section word slots i in_bound.NoMemory same_tree same_slots accepted is = tt

-- a slot that names a thread is in the frame
used-more : (slot : ℕ) (slots : List ℕ) (i : ℕ) (same used : Bool) →
    i < 8 → (slot == i) ≡ same → is_used slot ≡ used →
    (list_any (λ slot. slot == i) slots ≡ true → Contains (filter is_used slots) i) →
    same || list_any (λ slot. slot == i) slots ≡ true →
    Contains (if used then slot ∷ filter is_used slots else filter is_used slots) i
used-more slot slots i true true small same used rest e =
    let is : slot ≡ i = grind (arith, nat_tests, same) in
    rw (sym is) (cons-first slot (filter is_used slots))
used-more slot slots i true false small same used rest e =
    absurd (grind (arith, nat_tests, same, used, small))
used-more slot slots i false true small same used rest e =
    cons-rest slot (filter is_used slots) i (rest e)
used-more slot slots i false false small same used rest e = rest e

used-there : (slots : List ℕ) (i : ℕ) → i < 8 → list_any (λ slot. slot == i) slots ≡ true →
    Contains (filter is_used slots) i
used-there [] i small e = cc
used-there (slot ∷ slots) i small e =
    used-more slot slots i (slot == i) (is_used slot) small refl refl (used-there slots i small) e

pub named-there : (slots i : ℕ) → i < 8 → names slots i ≡ true → Contains (frame slots) i
unfolding frame
named-there slots i small e = used-there (nibbles slots) i small e

-- a section without a fault is a valid argument, and the thread has a slot
asked_by : (hard named order aligned outside : Bool) →
    let first : Option SectionNo = Some NotHard in
    (if not hard then first
    else if not named then Some NoSlot
    else if order then Some Order
    else if not aligned then Some Misaligned else if outside then Some Outside else None) ≡ None →
    (named ≡ true) × (order ≡ false) × (aligned ≡ true) × (outside ≡ false)
asked_by false named order aligned outside e = cc
asked_by true false order aligned outside e = cc
asked_by true true true aligned outside e = cc
asked_by true true false false outside e = cc
asked_by true true false true true e = cc
asked_by true true false true false e = (refl, refl, refl, refl)

size_small : (version : ℕ) → size_of version ≤ 65536
size_small version = elim (cases_Bool (version == 2)) [
  | inl is ↦ rw is (omega arith)
  | inr other ↦ rw other (omega arith)
]

pub asked_for : (s : Settings) (i : ℕ) (section : Section) → section_fault s i section ≡ None →
    (names s.slots i ≡ true) × IsSection section
unfolding section_fault
asked_for s i section e =
    let (named, order, aligned, outside) =
    asked_by (mode_of s.modes i == 0) (names s.slots i) (nat_le section.to section.from)
    (section.from % 4 == 0 && section.to % 4 == 0) (nat_lt (size_of s.version) section.to) e in
    let small = size_small s.version in (
      named,
      record {
        order = grind (arith, nat_tests, order);
        from_aligned = grind (arith, nat_tests, aligned);
        to_aligned = grind (arith, nat_tests, aligned);
        end = grind (arith, nat_tests, outside, small);
      },
    )
