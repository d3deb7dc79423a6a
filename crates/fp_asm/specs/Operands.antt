-- The operands of a mnemonic.
use Rattle.std.specs.Prelude.{ℕ, ◌<◌, ℤ, pos, neg_ℤ, List, [], ◌∷◌, Option}
use Rattle.std.specs.Prelude.{Some, None, option_map, option_and_then}
use Rattle.fp_asm.specs.Pieces.{Text, Piece, name, number, opening, closing, plus, minus}
use Rattle.fp_asm.specs.Names.{register_number, csr}
use Rattle.fp_asm.specs.declared.mnemonics.Slot.{Slot}
use Rattle.fp_asm.specs.declared.mnemonics.Slot.TheVariants.{Rd, Rs1, Rs2, Csr, Number, Memory}
use Rattle.fp_asm.specs.declared.mnemonics.Slot.TheVariants.{Value}

-- An address or a word: a number, or a label plus a number.
pub data Target : Type 0 where
  plain : ℤ → Target
  label : Text → ℤ → Target

-- The operands of a line.
pub record Operands : Type 0 where
  pub rd : ℕ
  pub rs1 : ℕ
  pub rs2 : ℕ
  pub csr_number : ℕ
  pub given : ℤ
  pub target : Target

-- no operand: register 0 and the number 0
abbrev pub nothing_given : Operands
nothing_given =
    record { rd = 0; rs1 = 0; rs2 = 0; csr_number = 0; given = pos 0; target = plain (pos 0) }

-- registers are numbers below 32
abbrev pub HasRegisters : Operands → Type 0
HasRegisters o = (o.rd < 32) × (o.rs1 < 32) × (o.rs2 < 32)

-- an operand that is a register
unfoldable pub register_in : List Piece → Option ℕ
register_in (name x ∷ []) = register_number x
register_in _ = None

-- a number with an optional `-`
unfoldable pub number_in : List Piece → Option ℤ
number_in (number n ∷ []) = Some (pos n)
number_in (minus ∷ number n ∷ []) = Some (neg_ℤ (pos n))
number_in _ = None

-- a number with an optional `-`, or a label, or a label plus or minus a number
unfoldable pub target_in : List Piece → Option Target
target_in (name x ∷ []) = Some (label x (pos 0))
target_in (name x ∷ plus ∷ number n ∷ []) = Some (label x (pos n))
target_in (name x ∷ minus ∷ number n ∷ []) = Some (label x (neg_ℤ (pos n)))
target_in ps = option_map plain (number_in ps)

-- a number or a name
unfoldable pub csr_in : List Piece → Option ℕ
csr_in (number n ∷ []) = Some n
csr_in (name x ∷ []) = csr x
csr_in _ = None

-- an offset and a base: `N(rs1)`
unfoldable pub memory_in : List Piece → Option (ℤ × ℕ)
memory_in (number n ∷ opening ∷ name x ∷ closing ∷ []) =
    option_map (λ base. (pos n, base)) (register_number x)
memory_in (minus ∷ number n ∷ opening ∷ name x ∷ closing ∷ []) =
    option_map (λ base. (neg_ℤ (pos n), base)) (register_number x)
memory_in _ = None

-- the operands with the next one added
unfoldable pub with_operand : Slot → List Piece → Operands → Option Operands
with_operand Rd ps o = option_map (λ r. record o { rd = r }) (register_in ps)
with_operand Rs1 ps o = option_map (λ r. record o { rs1 = r }) (register_in ps)
with_operand Rs2 ps o = option_map (λ r. record o { rs2 = r }) (register_in ps)
with_operand Csr ps o = option_map (λ n. record o { csr_number = n }) (csr_in ps)
with_operand Number ps o = option_map (λ n. record o { given = n }) (number_in ps)
with_operand Memory ps o = option_map (λ m. record o { given = m.0; rs1 = m.1 }) (memory_in ps)
with_operand Value ps o = option_map (λ v. record o { target = v }) (target_in ps)

-- with one operand for each slot
unfoldable pub all_filled : List Slot → List (List Piece) → Operands → Option Operands
all_filled [] [] o = Some o
all_filled (slot ∷ slots) (ps ∷ rest) o =
    option_and_then (all_filled slots rest) (with_operand slot ps o)
all_filled _ _ o = None

-- each operand as a target
unfoldable pub all_targets : List (List Piece) → Option (List Target)
all_targets [] = Some []
all_targets (ps ∷ rest) =
    option_and_then (λ v. option_map (λ vs. v ∷ vs) (all_targets rest)) (target_in ps)
