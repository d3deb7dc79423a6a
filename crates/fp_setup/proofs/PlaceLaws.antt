-- Each fault of a setup has a place that a setup has.
use Rattle.std.proofs.Common.{ℕ, ℤ, pos, negsuc, ◌+◌, ◌==◌, ◌≤◌, ◌&&◌, Bool, true, false}
use Rattle.std.proofs.Common.{List, [], ◌∷◌, ◌++◌, length, Option, Some, None, Result, Ok}
use Rattle.std.proofs.Common.{Err, is_some, if◌then◌else◌, nat_le, nat_lt, lit≤, subst, arith}
use Rattle.std.specs.List.{list_any}
use Rattle.toml.specs.Data.{Data, Members, as_integer, as_str, as_bool, as_table, get_member}
use Rattle.fp_setup.specs.declared.refusal.Place.{Place}
use Rattle.fp_setup.specs.declared.refusal.Fault.{Fault}
use Rattle.fp_setup.specs.declared.refusal.SetupNo.TheVariants as no
use Rattle.fp_setup.specs.declared.refusal.SetupRefused.{SetupRefused}
use Rattle.fp_setup.specs.declared.refusal.SetupRefused.TheVariants as refused
use Rattle.fp_setup.specs.declared.bounds.Range.{Range}
use Rattle.fp_setup.specs.declared.vocabulary.Words.{Words}
use Rattle.fp_setup.specs.Settings.{size_of}
use Rattle.fp_setup.specs.Faults.{fault, first, fault_at, no_place, top}
use Rattle.fp_setup.specs.Faults.{thread_row, loop_row, key_of, element_of}
use Rattle.fp_setup.specs.Vocabulary.{Text, number_of, refusal}
use Rattle.fp_setup.specs.Values.{number, as_list, pair, input_of}
use Rattle.fp_setup.specs.Keys.{Kind, Integer, Fresh, Address, AddressFrom, Bytes}
use Rattle.fp_setup.specs.Keys.{One, Eight, Truth, TruthWithout, Inputs, Threads}
use Rattle.fp_setup.specs.Keys.{Loops, Key, names, top_keys, thread_keys, loop_keys}
use Rattle.fp_setup.specs.Checks.{Check, typed, is_in, integer_fault, integer_check}
use Rattle.fp_setup.specs.Checks.{taken_fault, not_taken_check, bytes_fault, bytes_check}
use Rattle.fp_setup.specs.Checks.{word_fault, word_check, truth_check, permit_check}
use Rattle.fp_setup.specs.Checks.{each_fault, eight_fault, eight_check, is_input, input_check}
use Rattle.fp_setup.specs.Checks.{inputs_from, inputs_fault, few_fault, list_check}
use Rattle.fp_setup.specs.FaultOrder.{Around, integers, addresses, value_check, key_fault}
use Rattle.fp_setup.specs.FaultOrder.{keys_fault, has_other_key, unknown_fault, table_fault}
use Rattle.fp_setup.specs.FaultOrder.{thread_table_fault, thread_fault, loop_table_fault}
use Rattle.fp_setup.specs.FaultOrder.{loop_fault, id_of, threads_from, loops_from}
use Rattle.fp_setup.specs.FaultOrder.{threads_fault, loops_fault, top_check, top_fault}
use Rattle.fp_setup.specs.SetupOfTables.{settings, version_at}
use Rattle.fp_setup.specs.Setup.{unless_fault, document, setup, setup_in, setup_of, IsFaultOf}
use Rattle.fp_setup.specs.Places.{IsPlace, HasPlace, keys_in}

-- the fault that a check finds, if any, has such a place
abbrev pub FoundAtPlace : Option Fault → Type 0
FoundAtPlace None = Unit {0}
FoundAtPlace (Some f) = IsPlace f.place

if-at_place : (b : Bool) (x y : Option Fault) → FoundAtPlace x → FoundAtPlace y →
    FoundAtPlace (if b then x else y)
if-at_place true x y p q = p
if-at_place false x y p q = q

first-at_place : (x y : Option Fault) → FoundAtPlace x → FoundAtPlace y → FoundAtPlace (first x y)
first-at_place None y p q = q
first-at_place (Some f) y p q = p

typed-at_place : {A : Type 0} (place : Place) (o : Option A) (check : A → Option Fault) →
    IsPlace place → ((x : A) → FoundAtPlace (check x)) → FoundAtPlace (typed place o check)
typed-at_place place None check good each = good
typed-at_place place (Some x) check good each = each x

element-good : (place : Place) (index : ℕ) → IsPlace place → IsPlace (element_of place index)
element-good place index good = record { table = good.table; key = good.key }

integer_fault-at_place : (range : Range) (place : Place) (z : ℤ) → IsPlace place →
    FoundAtPlace (integer_fault range place z)
integer_fault-at_place range place (pos n) good =
    if-at_place (is_in range n) None (fault no.OutOfRange place) tt good
integer_fault-at_place range place (negsuc n) good = good

integer-at_place : (range : Range) (place : Place) (d : Data) → IsPlace place →
    FoundAtPlace (integer_check range place d)
unfolding integer_check
integer-at_place range place d good =
    typed-at_place place (as_integer d) (integer_fault range place) good
    (λ z. integer_fault-at_place range place z good)

not_taken-at_place : (range : Range) (taken : List ℕ) (place : Place) (d : Data) → IsPlace place →
    FoundAtPlace (not_taken_check range taken place d)
unfolding not_taken_check
not_taken-at_place range taken place d good =
    first-at_place (integer_check range place d)
    (taken_fault taken place (number d)) (integer-at_place range place d good)
    (if-at_place (list_any (λ k. k == number d) taken) (fault no.DoubleThread place) None good tt)

bytes-at_place : (low high : ℕ) (place : Place) (d : Data) → IsPlace place →
    FoundAtPlace (bytes_check low high place d)
unfolding bytes_check
bytes-at_place low high place d good =
    typed-at_place place (as_str d) (bytes_fault low high place) good (λ t. if-at_place
    (nat_le low (length t) && nat_le (length t) high) None (fault no.OutOfRange place) tt good)

word-at_place : (words : Words) (place : Place) (d : Data) → IsPlace place →
    FoundAtPlace (word_check words place d)
unfolding word_check
word-at_place words place d good =
    typed-at_place place (as_str d) (word_fault words place) good
    (λ t. if-at_place (is_some (number_of words t)) None (fault (refusal words) place) tt good)

truth-at_place : (place : Place) (d : Data) → IsPlace place → FoundAtPlace (truth_check place d)
unfolding truth_check
truth-at_place place d good = typed-at_place place (as_bool d) (λ (b : Bool). None) good (λ b. tt)

permit-at_place : (confined : Bool) (place : Place) (d : Data) → IsPlace place →
    FoundAtPlace (permit_check confined place d)
unfolding permit_check
permit-at_place confined place d good =
    typed-at_place place (as_bool d)
    (λ (b : Bool). if confined && b then fault no.ConfinedPermit place else None) good
    (λ b. if-at_place (confined && b) (fault no.ConfinedPermit place) None good tt)

each-at_place : (check : Check) (place : Place) (index : ℕ) (ds : List Data) →
    ((p : Place) (d : Data) → IsPlace p → FoundAtPlace (check p d)) → IsPlace place →
    FoundAtPlace (each_fault check place index ds)
each-at_place check place index [] each good = tt
each-at_place check place index (d ∷ ds) each good =
    first-at_place (check (element_of place index) d) (each_fault check place (index + 1) ds)
    (each (element_of place index) d (element-good place index good))
    (each-at_place check place (index + 1) ds each good)

eight-at_place : (words : Words) (place : Place) (d : Data) → IsPlace place →
    FoundAtPlace (eight_check words place d)
unfolding eight_check
eight-at_place words place d good =
    typed-at_place place (as_list d) (eight_fault words place) good
    (λ ds. if-at_place (length ds == 8)
    (each_fault (word_check words) place 0 ds) (fault no.OutOfRange place)
    (each-at_place (word_check words) place 0 ds (word-at_place words) good) good)

input-at_place : (before : Option ℕ) (place : Place) (d : Data) → IsPlace place →
    FoundAtPlace (input_check before place d)
unfolding input_check
input-at_place before place d good =
    typed-at_place place (pair d)
    (λ (p : ℤ × ℤ). if is_input before p.0 p.1 then None else fault no.OutOfRange place) good
    (λ p. if-at_place (is_input before p.0 p.1) None (fault no.OutOfRange place) tt good)

inputs-at_place : (place : Place) (index : ℕ) (before : Option ℕ) (ds : List Data) → IsPlace place →
    FoundAtPlace (inputs_from place index before ds)
inputs-at_place place index before [] good = tt
inputs-at_place place index before (d ∷ ds) good =
    first-at_place (input_check before (element_of place index) d)
    (inputs_from place (index + 1) (Some (input_of d).at) ds)
    (input-at_place before (element_of place index) d (element-good place index good))
    (inputs-at_place place (index + 1) (Some (input_of d).at) ds good)

list-at_place : (most : ℕ) (check : Place → List Data → Option Fault) (place : Place) (d : Data) →
    IsPlace place → ((ds : List Data) → FoundAtPlace (check place ds)) →
    FoundAtPlace (list_check most check place d)
unfolding list_check
list-at_place most check place d good each =
    typed-at_place place (as_list d) (few_fault most check place) good
    (λ ds.
    if-at_place (nat_lt most (length ds)) (fault no.TooMany place) (check place ds) good (each ds))

value-at_place : (around : Around) (kind : Kind) (place : Place) (d : Data) → IsPlace place →
    FoundAtPlace (value_check around kind place d)
value-at_place around (Integer low high) place d good =
    integer-at_place (integers low high) place d good
value-at_place around (Fresh low high) place d good =
    not_taken-at_place (integers low high) around.ids place d good
value-at_place around Address place d good = integer-at_place (addresses 0 around.size) place d good
value-at_place around (AddressFrom key) place d good = integer-at_place _ place d good
value-at_place around (Bytes low high) place d good = bytes-at_place low high place d good
value-at_place around (One words) place d good = word-at_place words place d good
value-at_place around (Eight words) place d good = eight-at_place words place d good
value-at_place around Truth place d good = truth-at_place place d good
value-at_place around (TruthWithout key) place d good = permit-at_place _ place d good
value-at_place around (Inputs most) place d good =
    list-at_place most inputs_fault place d good (λ ds. inputs-at_place place 0 None ds good)
value-at_place around (Threads most) place d good = tt
value-at_place around (Loops most) place d good = tt

-- a check of every kind
abbrev pub AllFoundAtPlace : (Kind → Check) → Type 0
AllFoundAtPlace check =
    (kind : Kind) (place : Place) (d : Data) → IsPlace place → FoundAtPlace (check kind place d)

key-at_place : (check : Check) (is_needed : Bool) (place : Place) (o : Option Data) →
    IsPlace place → ((d : Data) → FoundAtPlace (check place d)) →
    FoundAtPlace (key_fault check is_needed place o)
unfolding key_fault
key-at_place check is_needed place (Some d) good each = each d
key-at_place check true place None good each = good
key-at_place check false place None good each = tt

keys-at_place : (check : Kind → Check) (table : Place) (n : ℕ) (keys : List Key) (ms : Members) →
    AllFoundAtPlace check → table.table ≤ 3 → n + length keys ≤ keys_in table.table + 1 →
    FoundAtPlace (keys_fault check table n keys ms)
keys-at_place check table n [] ms each there room = tt
keys-at_place check table n (key ∷ keys) ms each there room =
    let good : IsPlace (key_of table n) = record { table = there; key = omega arith } in
    first-at_place (key_fault (check key.kind) key.is_needed (key_of table n)
    (get_member key.name ms)) (keys_fault check table (n + 1) keys ms)
    (key-at_place (check key.kind) key.is_needed (key_of table n)
    (get_member key.name ms) good (λ d. each key.kind (key_of table n) d good))
    (keys-at_place check table (n + 1) keys ms each there (omega arith))

unknown-at_place : (known : List Text) (table : Place) (ms : Members) → IsPlace table →
    FoundAtPlace (unknown_fault known table ms)
unfolding unknown_fault
unknown-at_place known table ms good =
    if-at_place (has_other_key known ms) (fault no.UnknownKey table) None good tt

table-at_place : (check : Kind → Check) (keys : List Key) (table : Place) (ms : Members) →
    AllFoundAtPlace check → IsPlace table → 1 + length keys ≤ keys_in table.table + 1 →
    FoundAtPlace (table_fault check keys table ms)
table-at_place check keys table ms each good room =
    first-at_place (unknown_fault (names keys) table ms)
    (keys_fault check table 1 keys ms) (unknown-at_place (names keys) table ms good)
    (keys-at_place check table 1 keys ms each good.table room)

thread_row-good : (row : ℕ) → IsPlace (thread_row row)
thread_row-good row = record { table = lit≤ tt; key = lit≤ tt }

loop_row-good : (row : ℕ) → IsPlace (loop_row row)
loop_row-good row = record { table = lit≤ tt; key = lit≤ tt }

thread-at_place : (size : ℕ) (ids : List ℕ) (row : ℕ) (o : Option Members) →
    FoundAtPlace (thread_fault size ids (thread_row row) o)
unfolding thread_table_fault
thread-at_place size ids row None = thread_row-good row
thread-at_place size ids row (Some ms) =
    table-at_place (value_check (record { size = size; table = ms; ids = ids })) thread_keys
    (thread_row row) ms (value-at_place _) (thread_row-good row) (lit≤ tt)

loop-at_place : (size : ℕ) (row : ℕ) (o : Option Members) →
    FoundAtPlace (loop_fault size (loop_row row) o)
unfolding loop_table_fault
loop-at_place size row None = loop_row-good row
loop-at_place size row (Some ms) =
    table-at_place (value_check (record { size = size; table = ms; ids = [] })) loop_keys
    (loop_row row) ms (value-at_place _) (loop_row-good row) (lit≤ tt)

threads-at_place : (size index : ℕ) (ids : List ℕ) (ds : List Data) →
    FoundAtPlace (threads_from size index ids ds)
threads-at_place size index ids [] = tt
threads-at_place size index ids (d ∷ ds) =
    first-at_place (thread_fault size ids (thread_row index) (as_table d))
    (threads_from size (index + 1) (ids ++ id_of d ∷ []) ds)
    (thread-at_place size ids index (as_table d))
    (threads-at_place size (index + 1) (ids ++ id_of d ∷ []) ds)

loops-at_place : (size index : ℕ) (ds : List Data) → FoundAtPlace (loops_from size index ds)
loops-at_place size index [] = tt
loops-at_place size index (d ∷ ds) =
    first-at_place (loop_fault size (loop_row index) (as_table d)) (loops_from size (index + 1) ds)
    (loop-at_place size index (as_table d)) (loops-at_place size (index + 1) ds)

top_check-at_place : (around : Around) → AllFoundAtPlace (top_check around)
unfolding threads_fault loops_fault
top_check-at_place around (Threads most) place d good =
    list-at_place most (threads_fault around.size) place d good
    (λ ds. threads-at_place around.size 0 [] ds)
top_check-at_place around (Loops most) place d good =
    list-at_place most (loops_fault around.size) place d good
    (λ ds. loops-at_place around.size 0 ds)
top_check-at_place around kind place d good = value-at_place around kind place d good

top-at_place : (size : ℕ) (ms : Members) → FoundAtPlace (top_fault size ms)
unfolding top_fault
top-at_place size ms =
    table-at_place (top_check (record { size = size; table = ms; ids = [] })) top_keys top ms
    (top_check-at_place _) (record { table = lit≤ tt; key = lit≤ tt }) (lit≤ tt)

-- the fault of a result
abbrev pub ResultAtPlace : {A : Type 0} → Result A Fault → Type 0
ResultAtPlace (Ok x) = Unit {0}
ResultAtPlace (Err f) = IsPlace f.place

unless_fault-at_place : {A : Type 0} (found : Option Fault) (x : A) → FoundAtPlace found →
    ResultAtPlace (unless_fault found x)
unless_fault-at_place None x p = tt
unless_fault-at_place (Some f) x p = p

no_place-good : IsPlace no_place
no_place-good = record { table = lit≤ tt; key = lit≤ tt }

setup_in-at_place : (o : Option Members) → ResultAtPlace (setup_in o)
unfolding setup_of
setup_in-at_place None = no_place-good
setup_in-at_place (Some ms) =
    unless_fault-at_place (top_fault (size_of (version_at ms)) ms) (settings ms)
    (top-at_place (size_of (version_at ms)) ms)

if-result-at_place : {A : Type 0} (b : Bool) (x y : Result A Fault) → ResultAtPlace x →
    ResultAtPlace y → ResultAtPlace (if b then x else y)
if-result-at_place true x y p q = p
if-result-at_place false x y p q = q

setup-at_place : (bytes : List ℕ) → ResultAtPlace (setup bytes)
unfolding setup
setup-at_place bytes =
    if-result-at_place (nat_lt 262144 (length bytes)) (Err (fault_at no.TooLong no_place))
    (setup_in (document bytes)) no_place-good (setup_in-at_place (document bytes))

-- so a refusal with the setup's fault has such a place
pub fault_of_setup_at_place : (bytes : List ℕ) (e : SetupRefused) →
    IsFaultOf (setup bytes) e → HasPlace e
fault_of_setup_at_place bytes (refused.Fault code place) is =
    subst ResultAtPlace is (setup-at_place bytes)
fault_of_setup_at_place bytes refused.NoMemory is = tt
