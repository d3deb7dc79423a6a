-- The answer of a command: its status and its text.
use Rattle.std.specs.Prelude.{◌≡◌, ℕ, ◌++◌, List, Option, Some}
use Rattle.std.specs.Prelude.{None, Result, Ok, Err, codes, decimal}
use Rattle.std.specs.Io.KnownBytes.{Appends}
use Rattle.fp_io.specs.Content.{AppendsPrefix, FileMap}
use Rattle.trace_print.specs.Refusals.{refusal_text}
use Rattle.trace_print.specs.declared.refusals.Refusal.{Refusal}
use Rattle.trace_print.specs.declared.refusals.Refusal.TheVariants.{Setup, Section, Image}
use Rattle.trace_print.specs.declared.refusals.Refusal.TheVariants.{Source, Bound, Routines}

pub data Answer : Type 0 where
  Says : ℕ → List ℕ → Answer  -- a status and a text
  Missing : Answer  -- a file that the command reads isn't there

-- the status of a refusal
abbrev pub status_of : Refusal → ℕ
status_of (Setup code place) = 3
status_of (Section code) = 3
status_of (Image code offset) = 4
status_of (Source line code) = 5
status_of (Bound code value) = 6
status_of (Routines line code) = 10

-- a refusal, with its line
abbrev pub refusal_answer : Refusal → Answer
refusal_answer refusal = Says (status_of refusal) (refusal_text refusal)

-- the line of a trace that isn't the defined one: where it first differs, counted from 1, in
-- decimal
unfoldable pub differs_text : ℕ → List ℕ
differs_text line = codes "differs line " ++ (decimal line ++ codes "\n")

-- The result of a step of a command is a value, or the answer that ends the command. This is one
-- step and then another one.
abbrev pub then_by : {A B : Type 0} → Result A Answer → (A → Result B Answer) → Result B Answer
then_by (Ok value) next = next value
then_by (Err answer) next = Err answer

-- a step over a file that the command reads
abbrev pub over_file : {A : Type 0} → (List ℕ → Result A Answer) → Option (List ℕ) → Result A Answer
over_file over None = Err Missing
over_file over (Some bytes) = over bytes

-- a step over the file with a name
abbrev pub on_file : {A : Type 0} → (List ℕ → Result A Answer) → List ℕ → FileMap → Result A Answer
on_file over name files = over_file over (files name)

-- a command that ends with its text
abbrev pub ends : Result (List ℕ) Answer → Answer
ends (Ok text) = Says 0 text
ends (Err answer) = answer

-- a status is the answer's, and its whole text was written
abbrev pub IsSaid : ℕ → Option (List ℕ) → Option (List ℕ) → Answer → Type 0
IsSaid status before after (Says s text) = (status ≡ s) × Appends before after text
IsSaid status before after Missing = ⊥

-- a prefix of the answer's text was written
abbrev pub WritesPrefix : Option (List ℕ) → Option (List ℕ) → Answer → Type 0
WritesPrefix before after (Says s text) = AppendsPrefix before after text
WritesPrefix before after Missing = ⊥

-- a status is the answer's
abbrev pub IsAnswered : ℕ → Answer → Type 0
IsAnswered status (Says s text) = status ≡ s
IsAnswered status Missing = status ≡ 7
