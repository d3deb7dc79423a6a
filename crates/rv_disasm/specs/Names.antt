-- The mnemonics of the operations. Source: RISC-V unprivileged manual, "RV32/64G Instruction Set
-- Listings".
use Rattle.std.specs.Prelude.{codes}
use Rattle.rv_decode.specs.declared.instruction.BranchOp.{BranchOp}
use Rattle.rv_decode.specs.declared.instruction.BranchOp.TheVariants.{Beq, Bne, Blt}
use Rattle.rv_decode.specs.declared.instruction.BranchOp.TheVariants.{Bge, Bltu, Bgeu}
use Rattle.rv_decode.specs.declared.instruction.LoadOp.{LoadOp}
use Rattle.rv_decode.specs.declared.instruction.LoadOp.TheVariants.{Lb, Lh, Lw, Lbu, Lhu}
use Rattle.rv_decode.specs.declared.instruction.StoreOp.{StoreOp}
use Rattle.rv_decode.specs.declared.instruction.StoreOp.TheVariants.{Sb, Sh, Sw}
use Rattle.rv_decode.specs.declared.instruction.ImmOp.{ImmOp}
use Rattle.rv_decode.specs.declared.instruction.ImmOp.TheVariants.{Addi, Slti, Sltiu}
use Rattle.rv_decode.specs.declared.instruction.ImmOp.TheVariants.{Xori, Ori, Andi}
use Rattle.rv_decode.specs.declared.instruction.ShiftOp.{ShiftOp}
use Rattle.rv_decode.specs.declared.instruction.ShiftOp.TheVariants.{Slli, Srli, Srai}
use Rattle.rv_decode.specs.declared.instruction.AluOp.{AluOp}
use Rattle.rv_decode.specs.declared.instruction.AluOp.TheVariants.{Add, Sub, Sll, Slt, Sltu}
use Rattle.rv_decode.specs.declared.instruction.AluOp.TheVariants.{Xor, Srl, Sra, Or, And}
use Rattle.rv_decode.specs.declared.instruction.MulOp.{MulOp}
use Rattle.rv_decode.specs.declared.instruction.MulOp.TheVariants.{Mul, Mulh, Mulhsu, Mulhu}
use Rattle.rv_decode.specs.declared.instruction.MulOp.TheVariants.{Div, Divu, Rem, Remu}
use Rattle.rv_decode.specs.declared.instruction.CsrKind.{CsrKind}
use Rattle.rv_decode.specs.declared.instruction.CsrKind.TheVariants.{Rw, Rs, Rc, Rwi, Rsi, Rci}
use Rattle.fp_asm.specs.Pieces.{Text}

abbrev pub branch_name : BranchOp → Text
branch_name Beq = codes "beq"
branch_name Bne = codes "bne"
branch_name Blt = codes "blt"
branch_name Bge = codes "bge"
branch_name Bltu = codes "bltu"
branch_name Bgeu = codes "bgeu"

abbrev pub load_name : LoadOp → Text
load_name Lb = codes "lb"
load_name Lh = codes "lh"
load_name Lw = codes "lw"
load_name Lbu = codes "lbu"
load_name Lhu = codes "lhu"

abbrev pub store_name : StoreOp → Text
store_name Sb = codes "sb"
store_name Sh = codes "sh"
store_name Sw = codes "sw"

abbrev pub imm_name : ImmOp → Text
imm_name Addi = codes "addi"
imm_name Slti = codes "slti"
imm_name Sltiu = codes "sltiu"
imm_name Xori = codes "xori"
imm_name Ori = codes "ori"
imm_name Andi = codes "andi"

abbrev pub shift_name : ShiftOp → Text
shift_name Slli = codes "slli"
shift_name Srli = codes "srli"
shift_name Srai = codes "srai"

abbrev pub alu_name : AluOp → Text
alu_name Add = codes "add"
alu_name Sub = codes "sub"
alu_name Sll = codes "sll"
alu_name Slt = codes "slt"
alu_name Sltu = codes "sltu"
alu_name Xor = codes "xor"
alu_name Srl = codes "srl"
alu_name Sra = codes "sra"
alu_name Or = codes "or"
alu_name And = codes "and"

abbrev pub mul_name : MulOp → Text
mul_name Mul = codes "mul"
mul_name Mulh = codes "mulh"
mul_name Mulhsu = codes "mulhsu"
mul_name Mulhu = codes "mulhu"
mul_name Div = codes "div"
mul_name Divu = codes "divu"
mul_name Rem = codes "rem"
mul_name Remu = codes "remu"

abbrev pub csr_name : CsrKind → Text
csr_name Rw = codes "csrrw"
csr_name Rs = codes "csrrs"
csr_name Rc = codes "csrrc"
csr_name Rwi = codes "csrrwi"
csr_name Rsi = codes "csrrsi"
csr_name Rci = codes "csrrci"
