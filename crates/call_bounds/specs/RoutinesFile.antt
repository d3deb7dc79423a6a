-- The file of routines: a line for each, with its head and the address of its last word. Source:
-- this project's profile.
use Rattle.std.specs.Prelude.{ℕ, suc, ◌+◌, ◌-◌, ◌*◌, ◌%◌, ◌==◌, nat_lt, nat_le, Bool}
use Rattle.std.specs.Prelude.{true, not, ◌&&◌, ◌||◌, if◌then◌else◌, List, [], ◌∷◌, length}
use Rattle.std.specs.Prelude.{take, drop, slice_index_or, Option, Some, None, Result, Ok}
use Rattle.std.specs.List.{list_all}
use Rattle.fp_image.specs.Checks.{Check, first_fault, unless, and_then}
use Rattle.call_bounds.specs.Routines.{most_routines}
use Rattle.call_bounds.specs.declared.routines_refusals.RoutinesNo.{RoutinesNo}
use Rattle.call_bounds.specs.declared.routines_refusals.RoutinesNo.TheVariants.{TooMany, BadLine}
use Rattle.call_bounds.specs.declared.routines_refusals.RoutinesNo.TheVariants.{BadPlace, Order}
use Rattle.call_bounds.specs.declared.routines_refusals.RoutinesRefused.{RoutinesRefused}
use Rattle.call_bounds.specs.declared.routines_refusals.RoutinesRefused.TheVariants.{Fault}
use Rattle.call_bounds.specs.declared.routines.Routine.{Routine}

-- lines with a byte before the first of them
abbrev pub in_front : ℕ → List (List ℕ) → List (List ℕ)
in_front byte [] = (byte ∷ []) ∷ []
in_front byte (line ∷ lines) = (byte ∷ line) ∷ lines

-- the lines of a file: each ends with a line feed (10), and the bytes after the last line feed are
-- a line too. Source lines leave the line feed out, so they have a definition of their own
unfoldable pub lines_of : List ℕ → List (List ℕ)
lines_of [] = []
lines_of (byte ∷ bytes) =
    if byte == 10 then (byte ∷ []) ∷ lines_of bytes else in_front byte (lines_of bytes)

-- a hexadecimal digit: 0 (48) to 9, a (97) to f. In a source, and on the command line, A to F are
-- digits too, so those have definitions of their own
abbrev pub is_digit : ℕ → Bool
is_digit byte = (nat_le 48 byte && nat_le byte 57) || (nat_le 97 byte && nat_le byte 102)

-- the value of a hexadecimal digit
abbrev pub digit : ℕ → ℕ
digit byte = if nat_le byte 57 then byte - 48 else byte - 87

-- the number of digits that follow those of n
unfoldable pub number_from : ℕ → List ℕ → ℕ
number_from n [] = n
number_from n (byte ∷ bytes) = number_from (n * 16 + digit byte) bytes

-- the eight digits of the address of the first word
abbrev pub head_digits : List ℕ → List ℕ
head_digits line = take 8 line

-- the eight digits of the address of the last word, after the space
abbrev pub last_digits : List ℕ → List ℕ
last_digits line = take 8 (drop 9 line)

-- the bytes of a line
abbrev pub line_length : ℕ
line_length = 18

-- eight digits, a space (32), eight digits, and a line feed
abbrev pub has_form : List ℕ → Bool
has_form line = length line == line_length
    && list_all is_digit (head_digits line) && slice_index_or line 8 0 == 32
    && list_all is_digit (last_digits line) && slice_index_or line 17 0 == 10

-- the routine of a line
abbrev pub routine_in : List ℕ → Routine
routine_in line =
    record { head = number_from 0 (head_digits line); last = number_from 0 (last_digits line) }

-- whether a routine may lie in a scratchpad of this size, in bytes
abbrev pub is_placed : ℕ → Routine → Bool
is_placed size r =
    r.head % 4 == 0 && r.last % 4 == 0 && nat_le r.head r.last && nat_le r.last (size - 4)

-- whether a routine begins above the one before it, if there is one
abbrev pub is_above : Option Routine → Routine → Bool
is_above None r = true
is_above (Some before) r = nat_lt before.last r.head

-- a check of the line with a number: whether it fails, and its fault
abbrev pub check : ℕ → Bool → RoutinesNo → Check RoutinesRefused
check number fails code = record { fails = fails; fault = Fault number code }

-- the checks of a line, in their order: lines are numbered from 1
abbrev pub line_checks : ℕ → ℕ → Option Routine → List ℕ → List (Check RoutinesRefused)
line_checks size number before line =
    check number (number == suc most_routines) TooMany
    ∷ check number (not (has_form line)) BadLine
    ∷ check number (not (is_placed size (routine_in line))) BadPlace
    ∷ check number (not (is_above before (routine_in line))) Order
    ∷ []

-- the routine of a line, or its fault
unfoldable pub routine_at : ℕ → ℕ → Option Routine → List ℕ → Result Routine RoutinesRefused
routine_at size number before line =
    unless (first_fault (line_checks size number before line)) (routine_in line)

-- the routines of lines from this number on, or the first fault
unfoldable pub routines_from : ℕ → ℕ → Option Routine → List (List ℕ) →
    Result (List Routine) RoutinesRefused
routines_from size number before [] = Ok []
routines_from size number before (line ∷ lines) =
    and_then (routine_at size number before line) (λ r.
    and_then (routines_from size (suc number) (Some r) lines) (λ more.
    Ok (r ∷ more)))

-- The routines of a file for scratchpads of this size, or its first fault.
unfoldable pub routines_of : ℕ → List ℕ → Result (List Routine) RoutinesRefused
routines_of size file = routines_from size 1 None (lines_of file)
