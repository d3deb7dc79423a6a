-- The keys of a setup file: for each table the rows of the published table, in their order.
use Rattle.std.specs.Prelude.{ℕ, Bool, true, false, List, [], ◌∷◌, map, codes}
use Rattle.timer_unit.specs.Time.{most_cycles}
use Rattle.fp_setup.specs.declared.vocabulary.Words.{Words}
use Rattle.fp_setup.specs.declared.vocabulary.Words.TheVariants.{Slots, Owners, Modes}
use Rattle.fp_setup.specs.Vocabulary.{Text}
use Rattle.fp_setup.specs.Inputs.{most_inputs}
use Rattle.fp_setup.specs.Loops.{most_rounds}

-- the kind of a key's value
pub data Kind : Type 0 where
  -- an integer from the first number to the second
  Integer : ℕ → ℕ → Kind
  -- an integer from the first number to the second, other than that of each table before
  Fresh : ℕ → ℕ → Kind
  -- the address of a word of a scratchpad: a multiple of 4 from 0 to the scratchpad's last word
  Address : Kind
  -- the same, but no less than the value of that key of the table
  AddressFrom : Text → Kind
  -- a text of so many bytes, from the first number to the second
  Bytes : ℕ → ℕ → Kind
  -- a text of a list
  One : Words → Kind
  -- a list of eight texts of a list
  Eight : Words → Kind
  -- a truth value
  Truth : Kind
  -- a truth value, not true together with the other key of the table
  TruthWithout : Text → Kind
  -- a list of pairs of a cycle and a word, with at most so many
  Inputs : ℕ → Kind
  -- a list of tables of threads, or of loops, with at most so many
  Threads : ℕ → Kind
  Loops : ℕ → Kind

-- a key of a table: its name, the kind of its value, and whether it is required
pub record Key : Type 0 where
  pub name : Text
  pub kind : Kind
  pub is_needed : Bool

abbrev pub needed : Text → Kind → Key
needed name kind = record { name = name; kind = kind; is_needed = true }

abbrev pub optional : Text → Kind → Key
optional name kind = record { name = name; kind = kind; is_needed = false }

-- the keys of the top table, of the table of a thread, and of that of a loop
abbrev pub top_keys : List Key
top_keys =
    optional (codes "version") (Integer 1 2)
    ∷ needed (codes "period") (Integer 1 1000)
    ∷ needed (codes "image") (Bytes 1 255)
    ∷ needed (codes "slots") (Eight Slots)
    ∷ needed (codes "i_regions") (Eight Owners)
    ∷ needed (codes "d_regions") (Eight Owners)
    ∷ optional (codes "thread") (Threads 8)
    ∷ optional (codes "loop") (Loops 256)
    ∷ []

abbrev pub thread_keys : List Key
thread_keys =
    needed (codes "id") (Fresh 0 7)
    ∷ needed (codes "mode") (One Modes)
    ∷ needed (codes "entry") Address
    ∷ optional (codes "confined") Truth
    ∷ optional (codes "permit") (TruthWithout (codes "confined"))
    ∷ optional (codes "unplug") (Integer 0 most_cycles)
    ∷ optional (codes "inputs") (Inputs most_inputs)
    ∷ []

abbrev pub loop_keys : List Key
loop_keys =
    needed (codes "head") Address
    ∷ needed (codes "last") (AddressFrom (codes "head"))
    ∷ needed (codes "bound") (Integer 0 most_rounds)
    ∷ []

abbrev pub names : List Key → List Text
names keys = map (λ key. key.name) keys
