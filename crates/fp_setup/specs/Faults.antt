-- Faults of a setup, and which of two comes first.
use Rattle.std.specs.Prelude.{ℕ, ◌+◌, Option, Some, None}
use Rattle.fp_setup.specs.declared.refusal.Place.{Place}
use Rattle.fp_setup.specs.declared.refusal.Fault.{Fault}
use Rattle.fp_setup.specs.declared.refusal.SetupNo.{SetupNo}

-- the file as a whole
abbrev pub no_place : Place
no_place = record { table = 0; row = 0; key = 0; item = 0 }

-- the top table; the table of a thread and of a loop, which count from 0
abbrev pub top : Place
top = record { table = 1; row = 0; key = 0; item = 0 }

abbrev pub thread_row : ℕ → Place
thread_row row = record { table = 2; row = row; key = 0; item = 0 }

abbrev pub loop_row : ℕ → Place
loop_row row = record { table = 3; row = row; key = 0; item = 0 }

-- the value of key number n of a table, from 1; and an element of a value's list, from 0
abbrev pub key_of : Place → ℕ → Place
key_of table n = record { table = table.table; row = table.row; key = n; item = 0 }

abbrev pub element_of : Place → ℕ → Place
element_of value index =
    record { table = value.table; row = value.row; key = value.key; item = index + 1 }

-- a fault with its place, and the result of a check that finds it
abbrev pub fault_at : SetupNo → Place → Fault
fault_at code place = record { code = code; place = place }

abbrev pub fault : SetupNo → Place → Option Fault
fault code place = Some (fault_at code place)

-- the first fault of two checks, one after the other
abbrev pub first : Option Fault → Option Fault → Option Fault
first None later = later
first (Some found) later = Some found
