-- The word of an instruction, in the formats of the manual (RISC-V unprivileged manual, "Base
-- Instruction Formats" and "Immediate Encoding Variants"). Each part is multiplied by the power of
-- two of its position.
use Rattle.std.specs.Prelude.{ℕ, ◌+◌, ◌-◌, ◌*◌, ◌%◌, ◌^◌, ℤ, pos, negsuc}
use Rattle.rv_decode.specs.Fields.{field}
use Rattle.rv_decode.specs.declared.instruction.Ins.{Ins}
use Rattle.rv_decode.specs.declared.instruction.Ins.TheVariants.{Lui, Auipc, Jal, Jalr, Branch}
use Rattle.rv_decode.specs.declared.instruction.Ins.TheVariants.{Load, Store, OpImm, Shift}
use Rattle.rv_decode.specs.declared.instruction.Ins.TheVariants.{Op, Muldiv, Fence, Ecall}
use Rattle.rv_decode.specs.declared.instruction.Ins.TheVariants.{Ebreak, Mret, Csr, Gt, Gth}
use Rattle.rv_decode.specs.declared.instruction.Ins.TheVariants.{Du, Wu, Ee, De, Illegal}
use Rattle.rv_decode.specs.declared.instruction.BranchOp.{BranchOp}
use Rattle.rv_decode.specs.declared.instruction.BranchOp.TheVariants.{Beq, Bne, Blt}
use Rattle.rv_decode.specs.declared.instruction.BranchOp.TheVariants.{Bge, Bltu, Bgeu}
use Rattle.rv_decode.specs.declared.instruction.LoadOp.{LoadOp}
use Rattle.rv_decode.specs.declared.instruction.LoadOp.TheVariants.{Lb, Lh, Lw, Lbu, Lhu}
use Rattle.rv_decode.specs.declared.instruction.StoreOp.{StoreOp}
use Rattle.rv_decode.specs.declared.instruction.StoreOp.TheVariants.{Sb, Sh, Sw}
use Rattle.rv_decode.specs.declared.instruction.ImmOp.{ImmOp}
use Rattle.rv_decode.specs.declared.instruction.ImmOp.TheVariants.{Addi, Slti, Sltiu}
use Rattle.rv_decode.specs.declared.instruction.ImmOp.TheVariants.{Xori, Ori, Andi}
use Rattle.rv_decode.specs.declared.instruction.ShiftOp.{ShiftOp}
use Rattle.rv_decode.specs.declared.instruction.ShiftOp.TheVariants.{Slli, Srli, Srai}
use Rattle.rv_decode.specs.declared.instruction.AluOp.{AluOp}
use Rattle.rv_decode.specs.declared.instruction.AluOp.TheVariants.{Add, Sub, Sll, Slt, Sltu}
use Rattle.rv_decode.specs.declared.instruction.AluOp.TheVariants.{Xor, Srl, Sra, Or, And}
use Rattle.rv_decode.specs.declared.instruction.MulOp.{MulOp}
use Rattle.rv_decode.specs.declared.instruction.MulOp.TheVariants.{Mul, Mulh, Mulhsu, Mulhu}
use Rattle.rv_decode.specs.declared.instruction.MulOp.TheVariants.{Div, Divu, Rem, Remu}
use Rattle.rv_decode.specs.declared.instruction.CsrKind.{CsrKind}
use Rattle.rv_decode.specs.declared.instruction.CsrKind.TheVariants.{Rw, Rs, Rc, Rwi, Rsi, Rci}

-- the lowest `count` bits of an integer in two's complement
abbrev pub low_bits : ℕ → ℤ → ℕ
low_bits count (pos n) = n % 2 ^ count
low_bits count (negsuc n) = 2 ^ count - 1 - n % 2 ^ count

-- The formats. The numbers are the opcode, the fields by their names, and the bits of the
-- immediate. Format R: a register is written, and two are read.
abbrev pub r_word : ℕ → ℕ → ℕ → ℕ → ℕ → ℕ → ℕ
r_word code rd funct3 rs1 rs2 funct7 =
    code + rd * 2 ^ 7 + funct3 * 2 ^ 12 + rs1 * 2 ^ 15 + rs2 * 2 ^ 20 + funct7 * 2 ^ 25

-- format I: a register is written, one is read, and there are twelve bits of an immediate
abbrev pub i_word : ℕ → ℕ → ℕ → ℕ → ℕ → ℕ
i_word code rd funct3 rs1 imm = code + rd * 2 ^ 7 + funct3 * 2 ^ 12 + rs1 * 2 ^ 15 + imm * 2 ^ 20

-- format S: two registers are read, and there are twelve bits of an immediate
abbrev pub s_word : ℕ → ℕ → ℕ → ℕ → ℕ → ℕ
s_word code funct3 rs1 rs2 imm = r_word code (field imm 0 5) funct3 rs1 rs2 (field imm 5 7)

-- format B: two registers are read, and there is an offset without its lowest bit
abbrev pub b_word : ℕ → ℕ → ℕ → ℕ → ℕ → ℕ
b_word code funct3 rs1 rs2 off =
    r_word code (field off 1 4 * 2 + field off 11 1) funct3 rs1 rs2
    (field off 12 1 * 2 ^ 6 + field off 5 6)

-- format U: a register is written, and there are twenty bits of an immediate
abbrev pub u_word : ℕ → ℕ → ℕ → ℕ
u_word code rd imm = code + rd * 2 ^ 7 + imm * 2 ^ 12

-- format J: a register is written, and there is an offset without its lowest bit
abbrev pub j_word : ℕ → ℕ → ℕ → ℕ
j_word code rd off =
    u_word code rd
    (field off 20 1 * 2 ^ 19 + field off 1 10 * 2 ^ 9 + field off 11 1 * 2 ^ 8 + field off 12 8)

-- The numbers of the operations: funct3 of each branch,
abbrev pub branch_funct3 : BranchOp → ℕ
branch_funct3 Beq = 0
branch_funct3 Bne = 1
branch_funct3 Blt = 4
branch_funct3 Bge = 5
branch_funct3 Bltu = 6
branch_funct3 Bgeu = 7

-- of each load,
abbrev pub load_funct3 : LoadOp → ℕ
load_funct3 Lb = 0
load_funct3 Lh = 1
load_funct3 Lw = 2
load_funct3 Lbu = 4
load_funct3 Lhu = 5

-- of each store,
abbrev pub store_funct3 : StoreOp → ℕ
store_funct3 Sb = 0
store_funct3 Sh = 1
store_funct3 Sw = 2

-- of each operation on a register and an immediate,
abbrev pub imm_funct3 : ImmOp → ℕ
imm_funct3 Addi = 0
imm_funct3 Slti = 2
imm_funct3 Sltiu = 3
imm_funct3 Xori = 4
imm_funct3 Ori = 6
imm_funct3 Andi = 7

-- and of each shift by a constant amount
abbrev pub shift_funct3 : ShiftOp → ℕ
shift_funct3 Slli = 1
shift_funct3 Srli = 5
shift_funct3 Srai = 5

-- funct7 of each shift by a constant amount
abbrev pub shift_funct7 : ShiftOp → ℕ
shift_funct7 Slli = 0
shift_funct7 Srli = 0
shift_funct7 Srai = 0x20

-- funct3 of each operation on two registers
abbrev pub alu_funct3 : AluOp → ℕ
alu_funct3 Add = 0
alu_funct3 Sub = 0
alu_funct3 Sll = 1
alu_funct3 Slt = 2
alu_funct3 Sltu = 3
alu_funct3 Xor = 4
alu_funct3 Srl = 5
alu_funct3 Sra = 5
alu_funct3 Or = 6
alu_funct3 And = 7

-- funct7 of each operation on two registers
abbrev pub alu_funct7 : AluOp → ℕ
alu_funct7 Add = 0
alu_funct7 Sub = 0x20
alu_funct7 Sll = 0
alu_funct7 Slt = 0
alu_funct7 Sltu = 0
alu_funct7 Xor = 0
alu_funct7 Srl = 0
alu_funct7 Sra = 0x20
alu_funct7 Or = 0
alu_funct7 And = 0

-- funct3 of each multiplication and division
abbrev pub mul_funct3 : MulOp → ℕ
mul_funct3 Mul = 0
mul_funct3 Mulh = 1
mul_funct3 Mulhsu = 2
mul_funct3 Mulhu = 3
mul_funct3 Div = 4
mul_funct3 Divu = 5
mul_funct3 Rem = 6
mul_funct3 Remu = 7

-- funct3 of each CSR instruction
abbrev pub csr_funct3 : CsrKind → ℕ
csr_funct3 Rw = 1
csr_funct3 Rs = 2
csr_funct3 Rc = 3
csr_funct3 Rwi = 5
csr_funct3 Rsi = 6
csr_funct3 Rci = 7

-- The word of an instruction whose fields are in range.
unfoldable pub encoding_of : Ins → ℕ
encoding_of (Lui rd imm) = u_word 0x37 rd imm
encoding_of (Auipc rd imm) = u_word 0x17 rd imm
encoding_of (Jal rd off) = j_word 0x6f rd (low_bits 21 off)
encoding_of (Jalr rd rs1 imm) = i_word 0x67 rd 0 rs1 (low_bits 12 imm)
encoding_of (Branch op rs1 rs2 off) = b_word 0x63 (branch_funct3 op) rs1 rs2 (low_bits 13 off)
encoding_of (Load op rd rs1 imm) = i_word 0x03 rd (load_funct3 op) rs1 (low_bits 12 imm)
encoding_of (Store op rs1 rs2 imm) = s_word 0x23 (store_funct3 op) rs1 rs2 (low_bits 12 imm)
encoding_of (OpImm op rd rs1 imm) = i_word 0x13 rd (imm_funct3 op) rs1 (low_bits 12 imm)
encoding_of (Shift op rd rs1 amount) = r_word 0x13 rd (shift_funct3 op) rs1 amount (shift_funct7 op)
encoding_of (Op op rd rs1 rs2) = r_word 0x33 rd (alu_funct3 op) rs1 rs2 (alu_funct7 op)
encoding_of (Muldiv op rd rs1 rs2) = r_word 0x33 rd (mul_funct3 op) rs1 rs2 1
encoding_of (Fence w) = w
encoding_of Ecall = 0x00000073
encoding_of Ebreak = 0x00100073
encoding_of Mret = 0x30200073
encoding_of (Csr op rd csr src) = i_word 0x73 rd (csr_funct3 op) src csr
encoding_of (Gt rd) = r_word 0x0b rd 0 0 0 0
encoding_of (Gth rd) = r_word 0x0b rd 1 0 0 0
encoding_of (Du rs1 rs2) = r_word 0x0b 0 2 rs1 rs2 0
encoding_of (Wu rs1 rs2) = r_word 0x0b 0 3 rs1 rs2 0
encoding_of (Ee rs1 rs2) = r_word 0x0b 0 4 rs1 rs2 0
encoding_of De = r_word 0x0b 0 5 0 0 0
encoding_of (Illegal w) = w
