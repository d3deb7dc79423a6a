-- The values of the instructions that compute from two registers, or from a register and an
-- immediate.
use Rattle.std.specs.Prelude.{ℕ, suc, ◌+◌, ◌-◌, ◌*◌, ◌/◌, ◌%◌, ◌^◌, ◌==◌, ℤ}
use Rattle.std.specs.Prelude.{pos, negsuc, ◌-ℤ◌, ◌*ℤ◌, nat_lt, if◌then◌else◌}
use Rattle.rv_exec.specs.Words.{signed, word, below, one_if, bitwise, floor_div}
use Rattle.rv_decode.specs.declared.instruction.AluOp.{AluOp}
use Rattle.rv_decode.specs.declared.instruction.AluOp.TheVariants.{Add, Sub, Sll, Slt, Sltu}
use Rattle.rv_decode.specs.declared.instruction.AluOp.TheVariants.{Xor, Srl, Sra, Or, And}
use Rattle.rv_decode.specs.declared.instruction.ImmOp.{ImmOp}
use Rattle.rv_decode.specs.declared.instruction.ImmOp.TheVariants.{Addi, Slti, Sltiu}
use Rattle.rv_decode.specs.declared.instruction.ImmOp.TheVariants.{Xori, Ori, Andi}
use Rattle.rv_decode.specs.declared.instruction.ShiftOp.{ShiftOp}
use Rattle.rv_decode.specs.declared.instruction.ShiftOp.TheVariants.{Slli, Srli, Srai}
use Rattle.rv_decode.specs.declared.instruction.MulOp.{MulOp}
use Rattle.rv_decode.specs.declared.instruction.MulOp.TheVariants.{Mul, Mulh, Mulhsu, Mulhu}
use Rattle.rv_decode.specs.declared.instruction.MulOp.TheVariants.{Div, Divu, Rem, Remu}

-- "Integer Register-Register Operations": sums and differences modulo 2 ^ 32; a shift's amount is
-- the low five bits of b; the arithmetic shift divides the signed value and rounds down
unfoldable pub alu_result : AluOp → ℕ → ℕ → ℕ
alu_result Add a b = (a + b) % 2 ^ 32
alu_result Sub a b = (a + (2 ^ 32 - b)) % 2 ^ 32
alu_result Sll a b = a * 2 ^ (b % 32) % 2 ^ 32
alu_result Slt a b = one_if (below (signed a) (signed b))
alu_result Sltu a b = one_if (nat_lt a b)
alu_result Xor a b = bitwise (λ x y. (x + y) % 2) 32 a b
alu_result Srl a b = a / 2 ^ (b % 32)
alu_result Sra a b = word (floor_div (signed a) (2 ^ (b % 32)))
alu_result Or a b = bitwise (λ x y. x + y - x * y) 32 a b
alu_result And a b = bitwise (λ x y. x * y) 32 a b

-- "Integer Register-Immediate Instructions": the immediate is sign extended to a word, also for the
-- unsigned comparison (SLTIU)
unfoldable pub alu_result_with : ImmOp → ℕ → ℤ → ℕ
alu_result_with Addi a imm = alu_result Add a (word imm)
alu_result_with Slti a imm = alu_result Slt a (word imm)
alu_result_with Sltiu a imm = alu_result Sltu a (word imm)
alu_result_with Xori a imm = alu_result Xor a (word imm)
alu_result_with Ori a imm = alu_result Or a (word imm)
alu_result_with Andi a imm = alu_result And a (word imm)

-- "Integer Register-Immediate Instructions": shifts by a constant amount
unfoldable pub shift_result : ShiftOp → ℕ → ℕ → ℕ
shift_result Slli a amount = alu_result Sll a amount
shift_result Srli a amount = alu_result Srl a amount
shift_result Srai a amount = alu_result Sra a amount

-- a quotient cut toward 0
abbrev pub quotient : ℤ → ℤ → ℤ
quotient (pos a) (pos b) = pos (a / b)
quotient (pos a) (negsuc b) = pos 0 -ℤ pos (a / suc b)
quotient (negsuc a) (pos b) = pos 0 -ℤ pos (suc a / b)
quotient (negsuc a) (negsuc b) = pos (suc a / suc b)

-- "Multiplication Operations" and "Division Operations" of the M extension. The high words are
-- those of the products of both signed, of signed and unsigned, and of both unsigned. A quotient by
-- 0 is all ones, and a remainder by 0 is a.
unfoldable pub mul_result : MulOp → ℕ → ℕ → ℕ
mul_result Mul a b = a * b % 2 ^ 32
mul_result Mulh a b = word (floor_div (signed a *ℤ signed b) (2 ^ 32))
mul_result Mulhsu a b = word (floor_div (signed a *ℤ pos b) (2 ^ 32))
mul_result Mulhu a b = a * b / 2 ^ 32
mul_result Div a b = if b == 0 then 2 ^ 32 - 1 else word (quotient (signed a) (signed b))
mul_result Divu a b = if b == 0 then 2 ^ 32 - 1 else a / b
mul_result Rem a b =
    if b == 0 then a else word (signed a -ℤ signed b *ℤ quotient (signed a) (signed b))
mul_result Remu a b = if b == 0 then a else a % b
