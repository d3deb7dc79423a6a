-- The order of faults, by the checks of whole tables: the keys in their order, and the rows of
-- threads and loops.
use Rattle.std.specs.Prelude.{ℕ, ◌+◌, ◌-◌, Bool, true, false, not, ◌||◌, List, []}
use Rattle.std.specs.Prelude.{◌∷◌, ◌++◌, Option, Some, None, if◌then◌else◌, codes}
use Rattle.std.specs.List.{list_any}
use Rattle.std.specs.Str.{bytes_eq}
use Rattle.toml.specs.Data.{Data, Members, no_members, member, as_table, get_member}
use Rattle.fp_setup.specs.declared.refusal.Place.{Place}
use Rattle.fp_setup.specs.declared.refusal.Fault.{Fault}
use Rattle.fp_setup.specs.declared.refusal.SetupNo.TheVariants as no
use Rattle.fp_setup.specs.declared.bounds.Range.{Range}
use Rattle.fp_setup.specs.Faults.{fault, first, top, thread_row, loop_row, key_of}
use Rattle.fp_setup.specs.Vocabulary.{Text}
use Rattle.fp_setup.specs.Keys.{Kind, Integer, Fresh, Address, AddressFrom, Bytes}
use Rattle.fp_setup.specs.Keys.{One, Eight, Truth, TruthWithout, Inputs, Threads}
use Rattle.fp_setup.specs.Keys.{Loops, Key, top_keys, thread_keys, loop_keys, names}
use Rattle.fp_setup.specs.Values.{members, number_at, truth_at}
use Rattle.fp_setup.specs.Checks.{Check, integer_check, not_taken_check, bytes_check, word_check}
use Rattle.fp_setup.specs.Checks.{truth_check, permit_check, eight_check, inputs_fault, list_check}

-- the context of a value: the bytes of each scratchpad, the table that holds the value, and the ids
-- of the threads before
pub record Around : Type 0 where
  pub size : ℕ
  pub table : Members
  pub ids : List ℕ

abbrev pub integers : ℕ → ℕ → Range
integers low high = record { low = low; high = high; step = 1 }

abbrev pub addresses : ℕ → ℕ → Range
addresses low size = record { low = low; high = size - 4; step = 4 }

-- the check of a value of a kind, except for the tables of threads and loops
abbrev pub value_check : Around → Kind → Check
value_check around (Integer low high) = integer_check (integers low high)
value_check around (Fresh low high) = not_taken_check (integers low high) around.ids
value_check around Address = integer_check (addresses 0 around.size)
value_check around (AddressFrom key) =
    integer_check (addresses (number_at key around.table) around.size)
value_check around (Bytes low high) = bytes_check low high
value_check around (One words) = word_check words
value_check around (Eight words) = eight_check words
value_check around Truth = truth_check
value_check around (TruthWithout key) = permit_check (truth_at key around.table)
value_check around (Inputs most) = list_check most inputs_fault
value_check around (Threads most) = λ _. λ _. None
value_check around (Loops most) = λ _. λ _. None

-- a key's value, or its absence
unfoldable pub key_fault : Check → Bool → Place → Option Data → Option Fault
key_fault check is_needed place (Some d) = check place d
key_fault check true place None = fault no.MissingKey place
key_fault check false place None = None

-- the keys of a table in their order, the first of them with that number
abbrev pub keys_fault : (Kind → Check) → Place → ℕ → List Key → Members → Option Fault
keys_fault check table n [] ms = None
keys_fault check table n (key ∷ keys) ms =
    first (key_fault (check key.kind) key.is_needed (key_of table n) (get_member key.name ms))
    (keys_fault check table (n + 1) keys ms)

-- a table has a key outside the list
abbrev pub has_other_key : List Text → Members → Bool
has_other_key known no_members = false
has_other_key known (member k d ms) =
    not (list_any (λ name. bytes_eq name k) known) || has_other_key known ms

unfoldable pub unknown_fault : List Text → Place → Members → Option Fault
unknown_fault known table ms = if has_other_key known ms then fault no.UnknownKey table else None

-- a table: first its unknown keys, and then its keys
abbrev pub table_fault : (Kind → Check) → List Key → Place → Members → Option Fault
table_fault check keys table ms =
    first (unknown_fault (names keys) table ms) (keys_fault check table 1 keys ms)

-- the table of a thread, after those with these ids
unfoldable pub thread_table_fault : ℕ → List ℕ → Place → Members → Option Fault
thread_table_fault size ids row ms =
    table_fault (value_check (record { size = size; table = ms; ids = ids })) thread_keys row ms

abbrev pub thread_fault : ℕ → List ℕ → Place → Option Members → Option Fault
thread_fault size ids row None = fault no.WrongType row
thread_fault size ids row (Some ms) = thread_table_fault size ids row ms

-- the table of a loop
unfoldable pub loop_table_fault : ℕ → Place → Members → Option Fault
loop_table_fault size row ms =
    table_fault (value_check (record { size = size; table = ms; ids = [] })) loop_keys row ms

abbrev pub loop_fault : ℕ → Place → Option Members → Option Fault
loop_fault size row None = fault no.WrongType row
loop_fault size row (Some ms) = loop_table_fault size row ms

-- the id in a thread's table
abbrev pub id_of : Data → ℕ
id_of d = number_at (codes "id") (members d)

-- the tables of threads in their order, the first of them with that index, after those with these
-- ids; and the tables of loops
abbrev pub threads_from : ℕ → ℕ → List ℕ → List Data → Option Fault
threads_from size index ids [] = None
threads_from size index ids (d ∷ ds) =
    first (thread_fault size ids (thread_row index) (as_table d))
    (threads_from size (index + 1) (ids ++ id_of d ∷ []) ds)

abbrev pub loops_from : ℕ → ℕ → List Data → Option Fault
loops_from size index [] = None
loops_from size index (d ∷ ds) =
    first (loop_fault size (loop_row index) (as_table d)) (loops_from size (index + 1) ds)

unfoldable pub threads_fault : ℕ → Place → List Data → Option Fault
threads_fault size place ds = threads_from size 0 [] ds

unfoldable pub loops_fault : ℕ → Place → List Data → Option Fault
loops_fault size place ds = loops_from size 0 ds

-- the check of a value of the top table
abbrev pub top_check : Around → Kind → Check
top_check around (Threads most) = list_check most (threads_fault around.size)
top_check around (Loops most) = list_check most (loops_fault around.size)
top_check around kind = value_check around kind

-- the first fault of the top table; its version determines the size of the scratchpads
unfoldable pub top_fault : ℕ → Members → Option Fault
top_fault size ms =
    table_fault (top_check (record { size = size; table = ms; ids = [] })) top_keys top ms
