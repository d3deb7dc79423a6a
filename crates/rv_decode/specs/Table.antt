-- The instruction table: the instruction of a 32-bit word. The first row that the word matches
-- decides; a word that matches no row is no instruction.
--
-- Source: RISC-V unprivileged manual, "RV32/64G Instruction Set Listings", for RV32I, M, Zicsr and
-- Zifencei; RISC-V privileged manual, "Trap-Return Instructions", for MRET; the rows of opcode 0x0b
-- are this project's own.
use Rattle.std.specs.Prelude.{ℕ, ◌==◌, ◌&&◌, Bool, true, List, [], ◌∷◌, ◌++◌, if◌then◌else◌}
use Rattle.rv_decode.specs.Fields.{field, rd, rs1, rs2, imm_i, imm_s, imm_b, imm_u, imm_j}
use Rattle.rv_decode.specs.declared.instruction.Ins.{Ins}
use Rattle.rv_decode.specs.declared.instruction.Ins.TheVariants.{Lui, Auipc, Jal, Jalr, Branch}
use Rattle.rv_decode.specs.declared.instruction.Ins.TheVariants.{Load, Store, OpImm, Shift}
use Rattle.rv_decode.specs.declared.instruction.Ins.TheVariants.{Op, Muldiv, Fence, Ecall}
use Rattle.rv_decode.specs.declared.instruction.Ins.TheVariants.{Ebreak, Mret, Csr, Gt, Gth}
use Rattle.rv_decode.specs.declared.instruction.Ins.TheVariants.{Du, Wu, Ee, De, Illegal}
use Rattle.rv_decode.specs.declared.instruction.BranchOp.{BranchOp}
use Rattle.rv_decode.specs.declared.instruction.BranchOp.TheVariants.{Beq, Bne, Blt}
use Rattle.rv_decode.specs.declared.instruction.BranchOp.TheVariants.{Bge, Bltu, Bgeu}
use Rattle.rv_decode.specs.declared.instruction.LoadOp.{LoadOp}
use Rattle.rv_decode.specs.declared.instruction.LoadOp.TheVariants.{Lb, Lh, Lw, Lbu, Lhu}
use Rattle.rv_decode.specs.declared.instruction.StoreOp.{StoreOp}
use Rattle.rv_decode.specs.declared.instruction.StoreOp.TheVariants.{Sb, Sh, Sw}
use Rattle.rv_decode.specs.declared.instruction.ImmOp.{ImmOp}
use Rattle.rv_decode.specs.declared.instruction.ImmOp.TheVariants.{Addi, Slti, Sltiu}
use Rattle.rv_decode.specs.declared.instruction.ImmOp.TheVariants.{Xori, Ori, Andi}
use Rattle.rv_decode.specs.declared.instruction.ShiftOp.{ShiftOp}
use Rattle.rv_decode.specs.declared.instruction.ShiftOp.TheVariants.{Slli, Srli, Srai}
use Rattle.rv_decode.specs.declared.instruction.AluOp.{AluOp}
use Rattle.rv_decode.specs.declared.instruction.AluOp.TheVariants.{Add, Sub, Sll, Slt, Sltu}
use Rattle.rv_decode.specs.declared.instruction.AluOp.TheVariants.{Xor, Srl, Sra, Or, And}
use Rattle.rv_decode.specs.declared.instruction.MulOp.{MulOp}
use Rattle.rv_decode.specs.declared.instruction.MulOp.TheVariants.{Mul, Mulh, Mulhsu, Mulhu}
use Rattle.rv_decode.specs.declared.instruction.MulOp.TheVariants.{Div, Divu, Rem, Remu}
use Rattle.rv_decode.specs.declared.instruction.CsrKind.{CsrKind}
use Rattle.rv_decode.specs.declared.instruction.CsrKind.TheVariants.{Rw, Rs, Rc, Rwi, Rsi, Rci}

-- A field that a row fixes: its lowest bit, its width, and its value.
pub record FixedField : Type 0 where
  pub low : ℕ
  pub count : ℕ
  pub is : ℕ

-- A row: its opcode, the further fields that it fixes, and the instruction of a matching word.
pub record Row : Type 0 where
  pub code : ℕ
  pub fields : List FixedField
  pub reads : ℕ → Ins

-- a field by its lowest bit, its width and its value
abbrev pub fixed_field : ℕ → ℕ → ℕ → FixedField
fixed_field low count is = record { low = low; count = count; is = is }

-- a row from its opcode, its other fixed fields, and the instruction of its words
abbrev pub row : ℕ → List FixedField → (ℕ → Ins) → Row
row code parts reads = record { code = code; fields = parts; reads = reads }

-- the fields by their names in the manual, with their values
abbrev pub funct3 : ℕ → FixedField
funct3 is = fixed_field 12 3 is

-- the upper seven bits are fixed
abbrev pub funct7 : ℕ → FixedField
funct7 is = fixed_field 25 7 is

-- the field of the written register is fixed
abbrev pub rd_is : ℕ → FixedField
rd_is is = fixed_field 7 5 is

-- the field of the first register is fixed
abbrev pub rs1_is : ℕ → FixedField
rs1_is is = fixed_field 15 5 is

-- the field of the second register is fixed
abbrev pub rs2_is : ℕ → FixedField
rs2_is is = fixed_field 20 5 is

-- the word as a whole
abbrev pub word_is : ℕ → FixedField
word_is is = fixed_field 0 32 is

-- Rows that differ only in a field and an operation.
abbrev pub branch_row : ℕ → BranchOp → Row
branch_row f3 op = row 0x63 (funct3 f3 ∷ []) (λ w. Branch op (rs1 w) (rs2 w) (imm_b w))

-- a load
abbrev pub load_row : ℕ → LoadOp → Row
load_row f3 op = row 0x03 (funct3 f3 ∷ []) (λ w. Load op (rd w) (rs1 w) (imm_i w))

-- a store
abbrev pub store_row : ℕ → StoreOp → Row
store_row f3 op = row 0x23 (funct3 f3 ∷ []) (λ w. Store op (rs1 w) (rs2 w) (imm_s w))

-- an operation on a register and an immediate
abbrev pub imm_row : ℕ → ImmOp → Row
imm_row f3 op = row 0x13 (funct3 f3 ∷ []) (λ w. OpImm op (rd w) (rs1 w) (imm_i w))

-- a shift by a constant amount
abbrev pub shift_row : ℕ → ℕ → ShiftOp → Row
shift_row f3 f7 op = row 0x13 (funct3 f3 ∷ funct7 f7 ∷ []) (λ w. Shift op (rd w) (rs1 w) (rs2 w))

-- an operation on two registers
abbrev pub op_row : ℕ → ℕ → AluOp → Row
op_row f3 f7 op = row 0x33 (funct3 f3 ∷ funct7 f7 ∷ []) (λ w. Op op (rd w) (rs1 w) (rs2 w))

-- a multiplication or division
abbrev pub mul_row : ℕ → MulOp → Row
mul_row f3 op = row 0x33 (funct3 f3 ∷ funct7 1 ∷ []) (λ w. Muldiv op (rd w) (rs1 w) (rs2 w))

-- FENCE or FENCE.I; their other fields are ignored
abbrev pub fence_row : ℕ → Row
fence_row f3 = row 0x0f (funct3 f3 ∷ []) (λ w. Fence w)

-- one whole word
abbrev pub system_row : ℕ → Ins → Row
system_row word i = row 0x73 (word_is word ∷ []) (λ w. i)

-- a CSR instruction
abbrev pub csr_row : ℕ → CsrKind → Row
csr_row f3 op = row 0x73 (funct3 f3 ∷ []) (λ w. Csr op (rd w) (field w 20 12) (rs1 w))

-- GT or GTH: only `rd` is free
abbrev pub get_row : ℕ → (ℕ → Ins) → Row
get_row f3 reads = row 0x0b (funct3 f3 ∷ rs1_is 0 ∷ rs2_is 0 ∷ funct7 0 ∷ []) reads

-- DU, WU or EE: the two registers are free
abbrev pub moment_row : ℕ → (ℕ → Ins) → Row
moment_row f3 reads = row 0x0b (funct3 f3 ∷ rd_is 0 ∷ funct7 0 ∷ []) reads

-- The table, opcode by opcode.
unfoldable pub lui_rows : List Row
lui_rows = row 0x37 [] (λ w. Lui (rd w) (imm_u w)) ∷ []

-- AUIPC
unfoldable pub auipc_rows : List Row
auipc_rows = row 0x17 [] (λ w. Auipc (rd w) (imm_u w)) ∷ []

-- JAL
unfoldable pub jal_rows : List Row
jal_rows = row 0x6f [] (λ w. Jal (rd w) (imm_j w)) ∷ []

-- JALR
unfoldable pub jalr_rows : List Row
jalr_rows = row 0x67 (funct3 0 ∷ []) (λ w. Jalr (rd w) (rs1 w) (imm_i w)) ∷ []

-- the conditional branches
unfoldable pub branch_rows : List Row
branch_rows =
    branch_row 0 Beq ∷ branch_row 1 Bne ∷ branch_row 4 Blt ∷ branch_row 5 Bge ∷ branch_row 6 Bltu
    ∷ branch_row 7 Bgeu ∷ []

-- the loads
unfoldable pub load_rows : List Row
load_rows = load_row 0 Lb ∷ load_row 1 Lh ∷ load_row 2 Lw ∷ load_row 4 Lbu ∷ load_row 5 Lhu ∷ []

-- the stores
unfoldable pub store_rows : List Row
store_rows = store_row 0 Sb ∷ store_row 1 Sh ∷ store_row 2 Sw ∷ []

-- the operations on a register and an immediate, and the shifts by a constant amount
unfoldable pub imm_rows : List Row
imm_rows =
    imm_row 0 Addi ∷ imm_row 2 Slti ∷ imm_row 3 Sltiu ∷ imm_row 4 Xori ∷ imm_row 6 Ori
    ∷ imm_row 7 Andi ∷ shift_row 1 0 Slli ∷ shift_row 5 0 Srli ∷ shift_row 5 0x20 Srai ∷ []

-- the operations on two registers, and the multiplications and divisions
unfoldable pub op_rows : List Row
op_rows =
    op_row 0 0 Add ∷ op_row 0 0x20 Sub ∷ op_row 1 0 Sll ∷ op_row 2 0 Slt ∷ op_row 3 0 Sltu
    ∷ op_row 4 0 Xor ∷ op_row 5 0 Srl ∷ op_row 5 0x20 Sra ∷ op_row 6 0 Or ∷ op_row 7 0 And
    ∷ mul_row 0 Mul ∷ mul_row 1 Mulh ∷ mul_row 2 Mulhsu ∷ mul_row 3 Mulhu
    ∷ mul_row 4 Div ∷ mul_row 5 Divu ∷ mul_row 6 Rem ∷ mul_row 7 Remu ∷ []

-- FENCE and FENCE.I, whatever their other bits are
unfoldable pub fence_rows : List Row
fence_rows = fence_row 0 ∷ fence_row 1 ∷ []

-- ECALL, EBREAK, MRET and the CSR instructions
unfoldable pub system_rows : List Row
system_rows =
    system_row 0x00000073 Ecall ∷ system_row 0x00100073 Ebreak ∷ system_row 0x30200073 Mret
    ∷ csr_row 1 Rw ∷ csr_row 2 Rs ∷ csr_row 3 Rc ∷ csr_row 5 Rwi ∷ csr_row 6 Rsi
    ∷ csr_row 7 Rci ∷ []

-- the six timing instructions
unfoldable pub time_rows : List Row
time_rows =
    get_row 0 (λ w. Gt (rd w)) ∷ get_row 1 (λ w. Gth (rd w))
    ∷ moment_row 2 (λ w. Du (rs1 w) (rs2 w)) ∷ moment_row 3 (λ w. Wu (rs1 w) (rs2 w))
    ∷ moment_row 4 (λ w. Ee (rs1 w) (rs2 w))
    ∷ row 0x0b (funct3 5 ∷ rd_is 0 ∷ rs1_is 0 ∷ rs2_is 0 ∷ funct7 0 ∷ []) (λ w. De) ∷ []

-- the whole table
unfoldable pub rows : List Row
rows =
    lui_rows ++ (auipc_rows ++ (jal_rows ++ (jalr_rows ++ (branch_rows ++ (load_rows
    ++ (store_rows ++ (imm_rows ++ (op_rows ++ (fence_rows ++ (system_rows ++ time_rows))))))))))

-- whether the word has each of these fields
abbrev pub all_hold : List FixedField → ℕ → Bool
all_hold [] w = true
all_hold (p ∷ more) w = (field w p.low p.count == p.is) && all_hold more w

-- whether the word is of this row
abbrev pub fits : Row → ℕ → Bool
fits r w = (field w 0 7 == r.code) && all_hold r.fields w

-- the instruction of the word in the first row that it matches
abbrev pub read_by : List Row → ℕ → Ins
read_by [] w = Illegal w
read_by (r ∷ more) w = if fits r w then r.reads w else read_by more w

-- The instruction of a word.
unfoldable pub ins : ℕ → Ins
ins w = read_by rows w
