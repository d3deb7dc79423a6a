-- The checks of one value, at its place: the first fault, or none.
use Rattle.std.specs.Prelude.{ℕ, ℤ, pos, negsuc, ◌+◌, ◌%◌, ◌==◌, ◌&&◌, Bool}
use Rattle.std.specs.Prelude.{true, false, nat_le, nat_lt, List, [], ◌∷◌}
use Rattle.std.specs.Prelude.{length, Option, Some, None, is_some, if◌then◌else◌}
use Rattle.std.specs.List.{list_any}
use Rattle.toml.specs.Data.{Data, as_integer, as_str, as_bool}
use Rattle.timer_unit.specs.Time.{most_cycles}
use Rattle.fp_setup.specs.declared.refusal.Place.{Place}
use Rattle.fp_setup.specs.declared.refusal.Fault.{Fault}
use Rattle.fp_setup.specs.declared.refusal.SetupNo.TheVariants as no
use Rattle.fp_setup.specs.declared.bounds.Range.{Range}
use Rattle.fp_setup.specs.declared.vocabulary.Words.{Words}
use Rattle.fp_setup.specs.Faults.{fault, first, element_of}
use Rattle.fp_setup.specs.Vocabulary.{Text, number_of, refusal}
use Rattle.fp_setup.specs.Values.{number, as_list, pair, input_of}

-- a check of a value at its place: the fault, or none
abbrev pub Check : Type 0
Check = Place → Data → Option Fault

-- the type comes first, and then the other requirements of the value
abbrev pub typed : {A : Type 0} → Place → Option A → (A → Option Fault) → Option Fault
typed place None check = fault no.WrongType place
typed place (Some x) check = check x

-- an integer in a range
abbrev pub is_in : Range → ℕ → Bool
is_in range n = (nat_le range.low n && nat_le n range.high) && n % range.step == 0

abbrev pub integer_fault : Range → Place → ℤ → Option Fault
integer_fault range place (pos n) = if is_in range n then None else fault no.OutOfRange place
integer_fault range place (negsuc n) = fault no.OutOfRange place

unfoldable pub integer_check : Range → Check
integer_check range place d = typed place (as_integer d) (integer_fault range place)

-- an integer in a range that isn't taken yet
abbrev pub taken_fault : List ℕ → Place → ℕ → Option Fault
taken_fault taken place n =
    if list_any (λ k. k == n) taken then fault no.DoubleThread place else None

unfoldable pub not_taken_check : Range → List ℕ → Check
not_taken_check range taken place d =
    first (integer_check range place d) (taken_fault taken place (number d))

-- a text of so many bytes
abbrev pub bytes_fault : ℕ → ℕ → Place → Text → Option Fault
bytes_fault low high place t =
    if nat_le low (length t) && nat_le (length t) high then None else fault no.OutOfRange place

unfoldable pub bytes_check : ℕ → ℕ → Check
bytes_check low high place d = typed place (as_str d) (bytes_fault low high place)

-- a text of a list
abbrev pub word_fault : Words → Place → Text → Option Fault
word_fault words place t = if is_some (number_of words t) then None else fault (refusal words) place

unfoldable pub word_check : Words → Check
word_check words place d = typed place (as_str d) (word_fault words place)

-- a truth value, and one that isn't true where the other is
unfoldable pub truth_check : Check
truth_check place d = typed place (as_bool d) (λ (b : Bool). None)

unfoldable pub permit_check : Bool → Check
permit_check confined place d =
    typed place (as_bool d)
    (λ (b : Bool). if confined && b then fault no.ConfinedPermit place else None)

-- the elements of a list in their order, the first of them with that index
abbrev pub each_fault : Check → Place → ℕ → List Data → Option Fault
each_fault check place index [] = None
each_fault check place index (d ∷ ds) =
    first (check (element_of place index) d) (each_fault check place (index + 1) ds)

-- eight texts of a list
abbrev pub eight_fault : Words → Place → List Data → Option Fault
eight_fault words place ds =
    if length ds == 8 then each_fault (word_check words) place 0 ds else fault no.OutOfRange place

unfoldable pub eight_check : Words → Check
eight_check words place d = typed place (as_list d) (eight_fault words place)

-- the largest word, of 32 bits
abbrev pub largest_word : ℕ
largest_word = 4294967295

-- an input after one with that cycle: a later cycle and a word
abbrev pub is_after : Option ℕ → ℕ → Bool
is_after None at = true
is_after (Some before) at = nat_lt before at

abbrev pub is_input : Option ℕ → ℤ → ℤ → Bool
is_input before (pos at) (pos word) =
    (nat_le at most_cycles && is_after before at) && nat_le word largest_word
is_input before _ _ = false

unfoldable pub input_check : Option ℕ → Check
input_check before place d =
    typed place (pair d)
    (λ (p : ℤ × ℤ). if is_input before p.0 p.1 then None else fault no.OutOfRange place)

-- inputs in their order, the first of them with that index
abbrev pub inputs_from : Place → ℕ → Option ℕ → List Data → Option Fault
inputs_from place index before [] = None
inputs_from place index before (d ∷ ds) =
    first (input_check before (element_of place index) d)
    (inputs_from place (index + 1) (Some (input_of d).at) ds)

abbrev pub inputs_fault : Place → List Data → Option Fault
inputs_fault place ds = inputs_from place 0 None ds

-- a list of at most so many elements, and the check of the elements
abbrev pub few_fault : ℕ → (Place → List Data → Option Fault) → Place → List Data → Option Fault
few_fault most check place ds =
    if nat_lt most (length ds) then fault no.TooMany place else check place ds

unfoldable pub list_check : ℕ → (Place → List Data → Option Fault) → Check
list_check most check place d = typed place (as_list d) (few_fault most check place)
