-- How a command without a text ends.
use Rattle.std.specs.Io.KnownBytes.{Appends}
use Rattle.std.specs.Prelude.{◌≡◌, ◌⊎◌, ℕ, List, Option}
use Rattle.commands.specs.Answer.{differs_text, status_of}
use Rattle.commands.specs.declared.stop.CommandStop.{CommandStop}
use Rattle.commands.specs.declared.stop.CommandStop.TheVariants.{Refused, Differs, Read, NoMemory}
use Rattle.fp_io.specs.Causes.{HasRisen}
use Rattle.fp_io.specs.Content.{AppendsPrefix}
use Rattle.trace_print.specs.Refusals.{refusal_text}
use Rattle.commands.specs.declared.status.Status.{Status}
use Rattle.commands.specs.declared.status.Status.TheVariants as statuses
use Rattle.commands.specs.Status.{number_of}

-- how a command ends with a line and its status: the line is written whole, or in part if the sink
-- failed
abbrev pub EndsWith : ℕ → List ℕ → ℕ → ℕ → Option (List ℕ) → Option (List ℕ) → Status → Type 0
EndsWith number line faults faults' before after status =
    ((number_of status ≡ number) × Appends before after line)
    ⊎ ((status ≡ statuses.Write) × HasRisen faults faults' × AppendsPrefix before after line)

-- how a command without a text ends: its line is written, if it has one, and nothing else
abbrev pub HasEnded : CommandStop → ℕ → ℕ → Option (List ℕ) → Option (List ℕ) → Status → Type 0
HasEnded (Refused refusal) faults faults' before after status =
    EndsWith (status_of refusal) (refusal_text refusal) faults faults' before after status
HasEnded (Differs line) faults faults' before after status =
    EndsWith 1 (differs_text line) faults faults' before after status
HasEnded Read faults faults' before after status = status ≡ statuses.Read
HasEnded NoMemory faults faults' before after status = status ≡ statuses.NoMemory
