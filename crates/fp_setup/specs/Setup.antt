-- The setup of a file's bytes, or its first fault.
use Rattle.std.specs.Prelude.{◌≡◌, ℕ, List, length, nat_lt, Option}
use Rattle.std.specs.Prelude.{Some, None, Result, Ok, Err, if◌then◌else◌}
use Rattle.std.specs.Str.{is_utf8}
use Rattle.toml.specs.Data.{Members}
use Rattle.toml.specs.Parse.{parse_document}
use Rattle.fp_setup.specs.declared.refusal.Fault.{Fault}
use Rattle.fp_setup.specs.declared.refusal.SetupNo.TheVariants as no
use Rattle.fp_setup.specs.declared.refusal.SetupRefused.{SetupRefused}
use Rattle.fp_setup.specs.declared.refusal.SetupRefused.TheVariants as refused
use Rattle.fp_setup.specs.Settings.{Settings, size_of}
use Rattle.fp_setup.specs.Faults.{fault_at, no_place}
use Rattle.fp_setup.specs.FaultOrder.{top_fault}
use Rattle.fp_setup.specs.SetupOfTables.{settings, version_at}

-- the fault where there is one, else the value
abbrev pub unless_fault : {A : Type 0} → Option Fault → A → Result A Fault
unless_fault None value = Ok value
unless_fault (Some found) value = Err found

-- the table of a text, if the text is UTF-8 and a document
abbrev pub document : List ℕ → Option Members
document bytes = if is_utf8 bytes then parse_document bytes else None

-- the setup of a table, or its first fault
unfoldable pub setup_of : Members → Result Settings Fault
setup_of ms = unless_fault (top_fault (size_of (version_at ms)) ms) (settings ms)

abbrev pub setup_in : Option Members → Result Settings Fault
setup_in None = Err (fault_at no.Toml no_place)
setup_in (Some ms) = setup_of ms

-- the most bytes of a setup
abbrev pub most_setup_bytes : ℕ
most_setup_bytes = 262144

-- the setup of a file's bytes, or its first fault
unfoldable pub setup : List ℕ → Result Settings Fault
setup bytes =
    if nat_lt most_setup_bytes (length bytes) then Err (fault_at no.TooLong no_place)
    else setup_in (document bytes)

-- a refusal, unless memory ran out, is that fault
abbrev pub IsFaultOf : {A : Type 0} → Result A Fault → SetupRefused → Type 0
IsFaultOf defined (refused.Fault code place) = defined ≡ Err (fault_at code place)
IsFaultOf defined refused.NoMemory = Unit {0}
