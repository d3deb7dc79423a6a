-- The statement of a line, and its size.
use Rattle.std.specs.Prelude.{ℕ, ◌==◌, ◌+◌, ◌*◌, ◌^◌, ◌/◌, ◌%◌, ◌-◌, ℤ, pos, neg_ℤ}
use Rattle.std.specs.Prelude.{nat_abs, Bool, true, false, List, [], ◌∷◌, Option, Some}
use Rattle.std.specs.Prelude.{None, Result, Ok, Err, if◌then◌else◌, option_map, length}
use Rattle.rv_decode.specs.Encoding.{low_bits}
use Rattle.region_guard.specs.MemoryMap.{small_size}
use Rattle.fp_asm.specs.Pieces.{Text, Piece, name, operands_of}
use Rattle.fp_asm.specs.Mnemonics.{Mnemonic, mnemonic}
use Rattle.fp_asm.specs.Operands.{Target, Operands, nothing_given, all_filled, all_targets}
use Rattle.fp_asm.specs.Words.{is_within, load_instructions}
use Rattle.fp_asm.specs.Faults.{next, holds, present}
use Rattle.fp_asm.specs.declared.mnemonics.Makes.{Makes}
use Rattle.fp_asm.specs.declared.mnemonics.Makes.TheVariants.{Li, La, Words, Org, Space}
use Rattle.fp_asm.specs.declared.refusal.AsmNo.{AsmNo}
use Rattle.fp_asm.specs.declared.refusal.AsmNo.TheVariants as no

-- The output of a mnemonic, with its operands. The values are those of `.word`, which has no other
-- operands.
pub record Statement : Type 0 where
  pub makes : Makes
  pub operands : Operands
  pub values : List Target

-- whether it is `.word`
abbrev pub is_words : Makes → Bool
is_words Words = true
is_words _ = false

-- one or more operands, each as a target
unfoldable pub some_targets : List (List Piece) → Option (List Target)
some_targets [] = None
some_targets (ps ∷ rest) = all_targets (ps ∷ rest)

-- the statement of a mnemonic with its operands; None if their number or form is wrong
unfoldable pub statement_in : Mnemonic → List (List Piece) → Option Statement
statement_in m operands =
    if is_words m.makes
    then option_map (λ vs. record { makes = m.makes; operands = nothing_given; values = vs })
    (some_targets operands)
    else option_map (λ o. record { makes = m.makes; operands = o; values = [] })
    (all_filled m.form operands nothing_given)

-- a number from 0 to a limit that must be a multiple of four
unfoldable pub aligned_to : ℕ → ℤ → Result (Unit {0}) AsmNo
aligned_to most n =
    holds (is_within (pos 0) (pos most) n) no.OutOfRange
    (holds (nat_abs n % 4 == 0) no.Misaligned (Ok tt))

-- the check for a kind of output: `.org`, `.space` and LI have one
abbrev pub checked_as : Makes → ℤ → Result (Unit {0}) AsmNo
checked_as Org n = aligned_to (2 ^ 32 - 4) n
checked_as Space n = aligned_to small_size n
checked_as Li n =
    holds (is_within (neg_ℤ (pos (2 ^ 31))) (pos (2 ^ 32 - 1)) n) no.OutOfRange (Ok tt)
checked_as _ n = Ok tt

-- the checks of a statement's number that precede the resolution of labels
unfoldable pub statement_check : Statement → Result (Unit {0}) AsmNo
statement_check s = checked_as s.makes s.operands.given

-- the statement from a name and the pieces after it
unfoldable pub statement_named : Text → List Piece → Result Statement AsmNo
statement_named x ps =
    next (present no.UnknownName (mnemonic x)) (λ m. next (present no.Operands
    (statement_in m (operands_of ps))) (λ s. next (statement_check s) (λ _. Ok s)))

-- The statement after the labels, if there is one. It begins with a name.
unfoldable pub statement_of : List Piece → Result (Option Statement) AsmNo
statement_of [] = Ok None
statement_of (name x ∷ ps) = next (statement_named x ps) (λ s. Ok (Some s))
statement_of _ = Err no.Operands

-- the number of words that a kind of output places
abbrev pub size_as : Makes → ℤ → List Target → ℕ
size_as Li n values = length (load_instructions 0 (low_bits 32 n))
size_as La n values = 2
size_as Words n values = length values
size_as Org n values = 0
size_as Space n values = nat_abs n / 4
size_as _ n values = 1

-- the number of words that the statement places
unfoldable pub size_of : Statement → ℕ
size_of s = size_as s.makes s.operands.given s.values

-- the location after a statement, from its kind of output
abbrev pub location_as : Makes → ℕ → Statement → ℕ
location_as Org location s = nat_abs s.operands.given
location_as _ location s = (location + 4 * size_of s) % 2 ^ 32

-- the location after the statement
unfoldable pub location_after : ℕ → Statement → ℕ
location_after location s = location_as s.makes location s
