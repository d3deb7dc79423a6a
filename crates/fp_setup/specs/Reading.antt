-- The result of a reading function: the value if the check finds no fault, and else the fault.
use Rattle.std.specs.Prelude.{◌≡◌, Option, Some, None, Result, Ok, Err}
use Rattle.fp_setup.specs.declared.refusal.Fault.{Fault}
use Rattle.fp_setup.specs.declared.refusal.SetupRefused.{SetupRefused}
use Rattle.fp_setup.specs.declared.refusal.SetupRefused.TheVariants as refused
use Rattle.fp_setup.specs.Faults.{fault_at}

abbrev pub IsRead : {A : Type 0} → Result A Fault → Option Fault → A → Type 0
IsRead (Ok x) found value = (found ≡ None) × (x ≡ value)
IsRead (Err e) found value = found ≡ Some e

-- a refusal, unless memory ran out, is the fault that was found
abbrev pub IsFound : SetupRefused → Option Fault → Type 0
IsFound (refused.Fault code place) found = found ≡ Some (fault_at code place)
IsFound refused.NoMemory found = Unit {0}

-- the same where memory may run out
abbrev pub IsReadInMemory : {A : Type 0} → Result A SetupRefused → Option Fault → A → Type 0
IsReadInMemory (Ok x) found value = (found ≡ None) × (x ≡ value)
IsReadInMemory (Err e) found value = IsFound e found
