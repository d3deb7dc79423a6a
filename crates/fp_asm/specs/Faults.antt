-- First faults.
use Rattle.std.specs.Prelude.{◌≡◌, ℕ, Bool, Option, Some, None, Result, Ok, Err, if◌then◌else◌}
use Rattle.fp_asm.specs.declared.refusal.AsmNo.{AsmNo}
use Rattle.fp_asm.specs.declared.refusal.AsmRefused.{AsmRefused}
use Rattle.fp_asm.specs.declared.refusal.AsmRefused.TheVariants as refused
use Rattle.fp_asm.specs.declared.refusal.LineStop.{LineStop}
use Rattle.fp_asm.specs.declared.refusal.LineStop.TheVariants as stop

-- the next result, if there was no fault
abbrev pub next : {A B E : Type 0} → Result A E → (A → Result B E) → Result B E
next (Ok x) f = f x
next (Err e) f = Err e

-- a test that must hold before the next result
abbrev pub holds : {A E : Type 0} → Bool → E → Result A E → Result A E
holds test fault rest = if test then rest else Err fault

-- a value that must be there
abbrev pub present : {A E : Type 0} → E → Option A → Result A E
present fault None = Err fault
present fault (Some x) = Ok x

-- a fault of a line, with its number
abbrev pub in_line : {A : Type 0} → ℕ → Result A AsmNo → Result A AsmRefused
in_line line (Ok x) = Ok x
in_line line (Err code) = Err (refused.Fault line code)

-- a refusal for another cause than memory is the source's first fault
abbrev pub IsFaultOf : {A : Type 0} → Result A AsmRefused → AsmRefused → Type 0
IsFaultOf defined (refused.Fault line code) = defined ≡ Err (refused.Fault line code)
IsFaultOf defined refused.NoMemory = Unit {0}

-- the cause that stops the code in a line: the line's first fault, or out of memory
abbrev pub IsLineStopOf : {A : Type 0} → Result A AsmNo → LineStop → Type 0
IsLineStopOf defined (stop.Fault code) = defined ≡ Err code
IsLineStopOf defined stop.NoMemory = Unit {0}

-- the refusal by what stops the code in a line, with the line's number
abbrev pub refused_in : ℕ → LineStop → AsmRefused
refused_in line (stop.Fault code) = refused.Fault line code
refused_in line stop.NoMemory = refused.NoMemory
