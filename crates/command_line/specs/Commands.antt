-- The commands, and the command that arguments give.
use Rattle.std.specs.Prelude.{ℕ, List, [], ◌∷◌, Option, Some, None}
use Rattle.std.specs.Prelude.{option_map, option_and_then, codes, find}
use Rattle.std.specs.Str.{bytes_eq}
use Rattle.timer_unit.specs.Time.{most_cycles}
use Rattle.fp_setup.specs.Checks.{largest_word}
use Rattle.command_line.specs.Limits.{most_checked_cycles}
use Rattle.fp_setup.specs.Vocabulary.{Text}
use Rattle.command_line.specs.Forms.{texts_in}
use Rattle.command_line.specs.Numbers.{thread_in, number_in, address_in}
use Rattle.command_line.specs.declared.asked.Ask.{Ask}
use Rattle.command_line.specs.declared.asked.Ask.TheVariants.{Run, Dump, Asm, Bound, Selfrun}
use Rattle.command_line.specs.declared.asked.Ask.TheVariants.{Phases, Solo, Check, Elf, Calls}

-- a command: its name, its options in order, and its meaning, from the file name and the options'
-- values in that order. `selfrun` has a number in place of the file name
pub record CommandRow : Type 0 where
  pub name : Text
  pub options : List Text
  pub asks : List Text → Option Ask

-- a command from two or three values, if all are present
abbrev pub of_two : {A : Type 0} → {B : Type 0} → (A → B → Ask) → Option A → Option B → Option Ask
of_two make (Some a) (Some b) = Some (make a b)
of_two make _ _ = None

abbrev pub of_three : {A : Type 0} → {B : Type 0} → {C : Type 0} → (A → B → C → Ask) → Option A →
    Option B → Option C → Option Ask
of_three make (Some a) (Some b) (Some c) = Some (make a b c)
of_three make _ _ _ = None

-- a number of cycles, at most 4,000,000,000
abbrev pub cycles_in : Text → Option ℕ
cycles_in = number_in most_cycles

-- The meaning of each command, from the texts of its file name and of its options in order.
abbrev pub run_asks : List Text → Option Ask
run_asks (setup ∷ thread ∷ cycles ∷ []) = of_two (Run setup) (thread_in thread) (cycles_in cycles)
run_asks _ = None

abbrev pub dump_asks : List Text → Option Ask
dump_asks (setup ∷ cycles ∷ []) = option_map (Dump setup) (cycles_in cycles)
dump_asks _ = None

abbrev pub asm_asks : List Text → Option Ask
asm_asks (source ∷ []) = Some (Asm source)
asm_asks _ = None

-- a bound, from its addresses
abbrev pub bound_of : Text → ℕ → ℕ → ℕ → Ask
bound_of setup thread from to = Bound setup thread (record { from = from; to = to })

abbrev pub bound_asks : List Text → Option Ask
bound_asks (setup ∷ thread ∷ from ∷ to ∷ []) =
    of_three (bound_of setup) (thread_in thread) (address_in from) (address_in to)
bound_asks _ = None

-- a number, at most 4,294,967,295
abbrev pub selfrun_asks : List Text → Option Ask
selfrun_asks (number ∷ []) = option_map Selfrun (number_in largest_word number)
selfrun_asks _ = None

abbrev pub phases_asks : List Text → Option Ask
phases_asks (setup ∷ cycles ∷ []) = option_map (Phases setup) (cycles_in cycles)
phases_asks _ = None

abbrev pub solo_asks : List Text → Option Ask
solo_asks (setup ∷ thread ∷ cycles ∷ []) = of_two (Solo setup) (thread_in thread) (cycles_in cycles)
solo_asks _ = None

-- a number of cycles that a trace is compared over
abbrev pub checked_cycles_in : Text → Option ℕ
checked_cycles_in = number_in most_checked_cycles

abbrev pub check_of : Text → Text → ℕ → ℕ → Ask
check_of setup trace thread cycles = Check setup thread cycles trace

abbrev pub check_asks : List Text → Option Ask
check_asks (setup ∷ thread ∷ cycles ∷ trace ∷ []) =
    of_two (check_of setup trace) (thread_in thread) (checked_cycles_in cycles)
check_asks _ = None

abbrev pub elf_asks : List Text → Option Ask
elf_asks (file ∷ []) = Some (Elf file)
elf_asks _ = None

abbrev pub calls_of : Text → Text → ℕ → ℕ → ℕ → Ask
calls_of setup routines thread from to =
    Calls setup thread (record { from = from; to = to }) routines

abbrev pub calls_asks : List Text → Option Ask
calls_asks (setup ∷ thread ∷ from ∷ to ∷ routines ∷ []) =
    of_three (calls_of setup routines) (thread_in thread) (address_in from) (address_in to)
calls_asks _ = None

-- The commands, each with its name and its options in order.
abbrev pub run_row : CommandRow
run_row =
    record { name = codes "run"; options = codes "thread" ∷ codes "cycles" ∷ []; asks = run_asks }

abbrev pub dump_row : CommandRow
dump_row = record { name = codes "dump"; options = codes "cycles" ∷ []; asks = dump_asks }

abbrev pub asm_row : CommandRow
asm_row = record { name = codes "asm"; options = []; asks = asm_asks }

abbrev pub bound_row : CommandRow
bound_row = record {
  name = codes "bound";
  options = codes "thread" ∷ codes "from" ∷ codes "to" ∷ [];
  asks = bound_asks;
}

abbrev pub selfrun_row : CommandRow
selfrun_row = record { name = codes "selfrun"; options = []; asks = selfrun_asks }

abbrev pub phases_row : CommandRow
phases_row = record { name = codes "phases"; options = codes "cycles" ∷ []; asks = phases_asks }

abbrev pub solo_row : CommandRow
solo_row =
    record { name = codes "solo"; options = codes "thread" ∷ codes "cycles" ∷ []; asks = solo_asks }

abbrev pub check_row : CommandRow
check_row = record {
  name = codes "check";
  options = codes "thread" ∷ codes "cycles" ∷ codes "trace" ∷ [];
  asks = check_asks;
}

abbrev pub elf_row : CommandRow
elf_row = record { name = codes "elf"; options = []; asks = elf_asks }

abbrev pub calls_row : CommandRow
calls_row = record {
  name = codes "calls";
  options = codes "thread" ∷ codes "from" ∷ codes "to" ∷ codes "routines" ∷ [];
  asks = calls_asks;
}

abbrev pub commands : List CommandRow
commands =
    run_row ∷ dump_row ∷ asm_row ∷ bound_row ∷ selfrun_row ∷ phases_row ∷ solo_row ∷ check_row
    ∷ elf_row ∷ calls_row ∷ []

-- the command that the arguments after its name give
unfoldable pub ask_of_words : CommandRow → List Text → Option Ask
ask_of_words row words = option_and_then row.asks (texts_in row.options words)

-- the same, if the name is that of a command
abbrev pub asked_by : Option CommandRow → List Text → Option Ask
asked_by None words = None
asked_by (Some row) words = ask_of_words row words

-- the command that the arguments give, if any; the first argument is a command's name
abbrev pub ask : List Text → Option Ask
ask [] = None
ask (name ∷ words) = asked_by (find (λ row. bytes_eq name row.name) commands) words
