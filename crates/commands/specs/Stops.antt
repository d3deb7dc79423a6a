-- Why a command ends before its text.
use Rattle.std.specs.Prelude.{◌≡◌, ◌⊎◌, ℕ, Bool, true, false, List}
use Rattle.std.specs.Prelude.{Option, Result, Ok, Err, IfSome, IsSomeAnd}
use Rattle.fp_io.specs.Causes.{HasRisen}
use Rattle.fp_io.specs.Content.{FileMap, IsMissing}
use Rattle.fp_io.specs.declared.files.FetchFault.{FetchFault}
use Rattle.fp_io.specs.declared.files.FetchFault.TheVariants as fault
use Rattle.commands.specs.declared.stop.CommandStop.{CommandStop}
use Rattle.commands.specs.declared.stop.CommandStop.TheVariants.{Refused, Differs, Read, NoMemory}
use Rattle.commands.specs.Answer.{Answer, differs_text, refusal_answer}
use Rattle.commands.specs.Answer.Answer.{Says, Missing}

-- Where the files' contents are known, a refusal is an answer that `Is` allows, with its line, and
-- so is a difference. A read fault comes only if a fault was counted in this call, or if a file
-- isn't there. Out of memory is always allowed.
abbrev pub IsStop : Option FileMap → (FileMap → Answer → Type 0) → ℕ → ℕ → CommandStop → Type 0
IsStop contents Is before after (Refused refusal) =
    IfSome contents (λ files. Is files (refusal_answer refusal))
IsStop contents Is before after (Differs line) =
    IfSome contents (λ files. Is files (Says 1 (differs_text line)))
IsStop contents Is before after Read = HasRisen before after ⊎ IsSomeAnd contents (λ files. Is
    files Missing)
IsStop contents Is before after NoMemory = Unit {0}

-- the same where the answers don't depend on files
abbrev pub IsAnswerStop : (Answer → Type 0) → CommandStop → Type 0
IsAnswerStop Is (Refused refusal) = Is (refusal_answer refusal)
IsAnswerStop Is (Differs line) = Is (Says 1 (differs_text line))
IsAnswerStop Is Read = ⊥
IsAnswerStop Is NoMemory = Unit {0}

-- the same for a step over bytes that are there
abbrev pub IsStopOf : {A : Type 0} → Result A Answer → CommandStop → Type 0
IsStopOf step stop = IsAnswerStop (λ x. step ≡ Err x) stop

-- the value of a step over files, where their contents are known
abbrev pub IsMadeBy : {A : Type 0} → Option FileMap → (FileMap → Result A Answer) → A → Type 0
IsMadeBy contents step value = IfSome contents (λ files. step files ≡ Ok value)

-- and why it stops
abbrev pub IsStopIn : {A : Type 0} → Option FileMap → (FileMap → Result A Answer) → ℕ →
    ℕ → CommandStop → Type 0
IsStopIn contents step before after stop = IsStop contents (λ files x. step files ≡ Err x)
    before after stop

-- files that look a name up before they take memory are known to lack it
abbrev pub FindsNone : Type 0 → Option FileMap → List ℕ → Type 0
FindsNone looks contents name = looks × IsMissing contents name

-- why a file isn't fetched: a read fault if a fault was counted or the file isn't there; else out
-- of memory. Files that look names up first count no fault then, and aren't known to lack the file.
abbrev pub IsFetchStop : Type 0 → Option FileMap → List ℕ → ℕ → ℕ → CommandStop → Type 0
IsFetchStop looks contents name before after stop =
    ((stop ≡ NoMemory) × (looks → (after ≡ before) × (¬ (IsMissing contents name))))
    ⊎ ((stop ≡ Read) × (HasRisen before after ⊎ IsMissing contents name))

-- why a file that isn't fetched stops a command
abbrev pub stop_of_fetch : FetchFault → CommandStop
stop_of_fetch fault.Missing = Read
stop_of_fetch fault.Failed = Read
stop_of_fetch fault.NoMemory = NoMemory

-- whether a recorded trace differs; the port of its thread may have been read by then
abbrev pub is_difference : CommandStop → Bool
is_difference (Differs line) = true
is_difference _ = false
