-- The lines that report refusals, in this project's format of refusals.
use Rattle.std.specs.Prelude.{ℕ, ◌==◌, ◌%◌, ◌^◌, List, [], ◌∷◌, ◌++◌, decimal, codes, if◌then◌else◌}
use Rattle.trace_print.specs.declared.refusals.Refusal.{Refusal}
use Rattle.trace_print.specs.declared.refusals.Refusal.TheVariants.{Setup, Section, Image}
use Rattle.trace_print.specs.declared.refusals.Refusal.TheVariants.{Source, Bound, Routines}
use Rattle.trace_print.specs.Digits.{hex}
use Rattle.trace_print.specs.Places.{place_text}

-- a code and its name
pub record Named : Type 0 where
  pub code : ℕ
  pub name : List ℕ

abbrev pub named : ℕ → List ℕ → Named
named code name = record { code = code; name = name }

-- the name of a code in a table; empty if the table lacks it
abbrev pub name_of : List Named → ℕ → List ℕ
name_of [] code = []
name_of (entry ∷ table) code = if code == entry.code then entry.name else name_of table code

-- the names of the faults of a setup
unfoldable pub setup_names : List Named
setup_names =
    named 1 (codes "TooLong")
    ∷ named 2 (codes "Toml")
    ∷ named 3 (codes "UnknownKey")
    ∷ named 4 (codes "MissingKey")
    ∷ named 5 (codes "WrongType")
    ∷ named 6 (codes "OutOfRange")
    ∷ named 7 (codes "BadSlot")
    ∷ named 8 (codes "BadMode")
    ∷ named 9 (codes "BadRegion")
    ∷ named 10 (codes "ConfinedPermit")
    ∷ named 11 (codes "DoubleThread")
    ∷ named 12 (codes "TooMany")
    ∷ []

-- the names of the faults of the requested section or thread
unfoldable pub section_names : List Named
section_names =
    named 1 (codes "NotHard")
    ∷ named 2 (codes "NoSlot")
    ∷ named 3 (codes "Order")
    ∷ named 4 (codes "Misaligned")
    ∷ named 5 (codes "Outside")
    ∷ named 6 (codes "NotConfined")
    ∷ []

-- the names of the faults of an image, 1 to 6, and of an ELF file, 31 to 42
unfoldable pub image_names : List Named
image_names =
    named 1 (codes "TooLong")
    ∷ named 2 (codes "Magic")
    ∷ named 3 (codes "Truncated")
    ∷ named 4 (codes "BadSegment")
    ∷ named 5 (codes "Overlap")
    ∷ named 6 (codes "Trailing")
    ∷ named 31 (codes "TooLong")
    ∷ named 32 (codes "NotElf")
    ∷ named 33 (codes "Truncated")
    ∷ named 34 (codes "Class")
    ∷ named 35 (codes "ByteOrder")
    ∷ named 36 (codes "Kind")
    ∷ named 37 (codes "Machine")
    ∷ named 38 (codes "EntrySize")
    ∷ named 39 (codes "Dynamic")
    ∷ named 40 (codes "BadLoad")
    ∷ named 41 (codes "Overlap")
    ∷ named 42 (codes "TooManySegments")
    ∷ []

-- the names of the faults of a source or of one of its lines
unfoldable pub source_names : List Named
source_names =
    named 1 (codes "TooLong")
    ∷ named 2 (codes "Lex")
    ∷ named 3 (codes "UnknownName")
    ∷ named 4 (codes "Operands")
    ∷ named 5 (codes "OutOfRange")
    ∷ named 6 (codes "DoubleLabel")
    ∷ named 7 (codes "NoLabel")
    ∷ named 8 (codes "Misaligned")
    ∷ named 9 (codes "OutsideMemory")
    ∷ named 10 (codes "Overlap")
    ∷ named 11 (codes "TooManySegments")
    ∷ []

-- the names of the reasons for which there is no bound; except for Overflow, the value is an
-- address
unfoldable pub bound_names : List Named
bound_names =
    named 1 (codes "Nesting")
    ∷ named 2 (codes "IndirectJump")
    ∷ named 3 (codes "TimedWait")
    ∷ named 4 (codes "UnboundedBackEdge")
    ∷ named 6 (codes "Overflow")
    ∷ named 8 (codes "Overlap")
    ∷ named 9 (codes "Recursion")
    ∷ named 10 (codes "Escape")
    ∷ []

-- the names of the faults of a line of a list of routines
unfoldable pub routine_names : List Named
routine_names =
    named 1 (codes "TooMany")
    ∷ named 2 (codes "BadLine")
    ∷ named 3 (codes "BadPlace")
    ∷ named 4 (codes "Order")
    ∷ []

-- a code with its name
abbrev pub code_text : List Named → ℕ → List ℕ
code_text table code = decimal code ++ (codes " " ++ name_of table code)

-- the number in a bound's refusal: for Overflow the bound in decimal, else an address in eight
-- hexadecimal digits
unfoldable pub bound_value : ℕ → ℕ → List ℕ
bound_value code value = if code == 6 then decimal value else hex 8 (value % 2 ^ 32)

-- the line of a refusal: the refused object, the code with its name, and the place
unfoldable pub refusal_text : Refusal → List ℕ
refusal_text (Setup code place) =
    codes "refused setup "
    ++ (code_text setup_names code ++ (codes " " ++ (place_text place ++ codes "\n")))
refusal_text (Section code) =
    codes "refused section " ++ (code_text section_names code ++ codes "\n")
refusal_text (Image code offset) =
    codes "refused image "
    ++ (code_text image_names code ++ (codes " " ++ (decimal offset ++ codes "\n")))
refusal_text (Source line code) =
    codes "refused source "
    ++ (decimal line ++ (codes " " ++ (code_text source_names code ++ codes "\n")))
refusal_text (Bound code value) =
    codes "refused bound "
    ++ (code_text bound_names code ++ (codes " " ++ (bound_value code value ++ codes "\n")))
refusal_text (Routines line code) =
    codes "refused routines "
    ++ (decimal line ++ (codes " " ++ (code_text routine_names code ++ codes "\n")))
