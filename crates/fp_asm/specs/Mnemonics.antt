-- The mnemonics: the name of each, the form of its operands, and its output. An operand that a row
-- does not have is register 0 or the number 0, so a pseudo-instruction is only a row.
--
-- Source: RISC-V unprivileged manual, "RISC-V Assembly Programmer's Handbook", for the names, forms
-- and pseudo-instructions of the instruction set; `gt`, `gth`, `du`, `wu`, `ee`, `de`, and which of
-- the manual's there are, are this project's own.
use Rattle.std.specs.Prelude.{List, [], ◌∷◌, Option, codes, find}
use Rattle.std.specs.Str.{bytes_eq}
use Rattle.fp_asm.specs.Pieces.{Text}
use Rattle.fp_asm.specs.declared.mnemonics.Slot.{Slot}
use Rattle.fp_asm.specs.declared.mnemonics.Slot.TheVariants.{Rd, Rs1, Rs2, Csr, Number, Memory}
use Rattle.fp_asm.specs.declared.mnemonics.Slot.TheVariants.{Value}
use Rattle.fp_asm.specs.declared.mnemonics.Makes.{Makes}
use Rattle.fp_asm.specs.declared.mnemonics.Makes.TheVariants.{Plain, Branch, Jal, Li}
use Rattle.fp_asm.specs.declared.mnemonics.Makes.TheVariants.{La, Words, Org, Space}
use Rattle.fp_asm.specs.declared.mnemonics.Plain.TheVariants as plain
use Rattle.rv_decode.specs.declared.instruction.BranchOp.TheVariants.{Beq, Bne, Blt}
use Rattle.rv_decode.specs.declared.instruction.BranchOp.TheVariants.{Bge, Bltu, Bgeu}
use Rattle.rv_decode.specs.declared.instruction.LoadOp.TheVariants.{Lb, Lh, Lw, Lbu, Lhu}
use Rattle.rv_decode.specs.declared.instruction.StoreOp.TheVariants.{Sb, Sh, Sw}
use Rattle.rv_decode.specs.declared.instruction.ImmOp.TheVariants.{Addi, Slti, Sltiu}
use Rattle.rv_decode.specs.declared.instruction.ImmOp.TheVariants.{Xori, Ori, Andi}
use Rattle.rv_decode.specs.declared.instruction.ShiftOp.TheVariants.{Slli, Srli, Srai}
use Rattle.rv_decode.specs.declared.instruction.AluOp.TheVariants.{Add, Sub, Sll, Slt, Sltu}
use Rattle.rv_decode.specs.declared.instruction.AluOp.TheVariants.{Xor, Srl, Sra, Or, And}
use Rattle.rv_decode.specs.declared.instruction.MulOp.TheVariants.{Mul, Mulh, Mulhsu, Mulhu}
use Rattle.rv_decode.specs.declared.instruction.MulOp.TheVariants.{Div, Divu, Rem, Remu}
use Rattle.rv_decode.specs.declared.instruction.CsrKind.TheVariants.{Rw, Rs, Rc, Rwi, Rsi, Rci}

-- a mnemonic: its name, the form of its operands, and its output
pub record Mnemonic : Type 0 where
  pub name : Text
  pub form : List Slot
  pub makes : Makes

-- a row of the table
abbrev pub row : Text → List Slot → Makes → Mnemonic
row name form makes = record { name = name; form = form; makes = makes }

-- the forms that several rows share
abbrev pub rd_rs1_rs2 : List Slot
rd_rs1_rs2 = Rd ∷ Rs1 ∷ Rs2 ∷ []

-- a written register, a read register and a number
abbrev pub rd_rs1_number : List Slot
rd_rs1_number = Rd ∷ Rs1 ∷ Number ∷ []

-- a written register, and a number with a base register
abbrev pub rd_memory : List Slot
rd_memory = Rd ∷ Memory ∷ []

-- a stored register, and a number with a base register
abbrev pub rs2_memory : List Slot
rs2_memory = Rs2 ∷ Memory ∷ []

-- two read registers and an address
abbrev pub rs1_rs2_value : List Slot
rs1_rs2_value = Rs1 ∷ Rs2 ∷ Value ∷ []

-- two read registers
abbrev pub rs1_rs2 : List Slot
rs1_rs2 = Rs1 ∷ Rs2 ∷ []

-- a written and a read register
abbrev pub rd_rs1 : List Slot
rd_rs1 = Rd ∷ Rs1 ∷ []

-- a written register, a control and status register and a read register
abbrev pub rd_csr_rs1 : List Slot
rd_csr_rs1 = Rd ∷ Csr ∷ Rs1 ∷ []

-- a written register, a control and status register and a number
abbrev pub rd_csr_number : List Slot
rd_csr_number = Rd ∷ Csr ∷ Number ∷ []

-- the table
unfoldable pub mnemonics : List Mnemonic
mnemonics =
    row (codes "add") rd_rs1_rs2 (Plain (plain.Op Add))
    ∷ row (codes "sub") rd_rs1_rs2 (Plain (plain.Op Sub))
    ∷ row (codes "sll") rd_rs1_rs2 (Plain (plain.Op Sll))
    ∷ row (codes "slt") rd_rs1_rs2 (Plain (plain.Op Slt))
    ∷ row (codes "sltu") rd_rs1_rs2 (Plain (plain.Op Sltu))
    ∷ row (codes "xor") rd_rs1_rs2 (Plain (plain.Op Xor))
    ∷ row (codes "srl") rd_rs1_rs2 (Plain (plain.Op Srl))
    ∷ row (codes "sra") rd_rs1_rs2 (Plain (plain.Op Sra))
    ∷ row (codes "or") rd_rs1_rs2 (Plain (plain.Op Or))
    ∷ row (codes "and") rd_rs1_rs2 (Plain (plain.Op And))
    ∷ row (codes "mul") rd_rs1_rs2 (Plain (plain.Muldiv Mul))
    ∷ row (codes "mulh") rd_rs1_rs2 (Plain (plain.Muldiv Mulh))
    ∷ row (codes "mulhsu") rd_rs1_rs2 (Plain (plain.Muldiv Mulhsu))
    ∷ row (codes "mulhu") rd_rs1_rs2 (Plain (plain.Muldiv Mulhu))
    ∷ row (codes "div") rd_rs1_rs2 (Plain (plain.Muldiv Div))
    ∷ row (codes "divu") rd_rs1_rs2 (Plain (plain.Muldiv Divu))
    ∷ row (codes "rem") rd_rs1_rs2 (Plain (plain.Muldiv Rem))
    ∷ row (codes "remu") rd_rs1_rs2 (Plain (plain.Muldiv Remu))
    ∷ row (codes "addi") rd_rs1_number (Plain (plain.OpImm Addi))
    ∷ row (codes "slti") rd_rs1_number (Plain (plain.OpImm Slti))
    ∷ row (codes "sltiu") rd_rs1_number (Plain (plain.OpImm Sltiu))
    ∷ row (codes "xori") rd_rs1_number (Plain (plain.OpImm Xori))
    ∷ row (codes "ori") rd_rs1_number (Plain (plain.OpImm Ori))
    ∷ row (codes "andi") rd_rs1_number (Plain (plain.OpImm Andi))
    ∷ row (codes "slli") rd_rs1_number (Plain (plain.Shift Slli))
    ∷ row (codes "srli") rd_rs1_number (Plain (plain.Shift Srli))
    ∷ row (codes "srai") rd_rs1_number (Plain (plain.Shift Srai))
    ∷ row (codes "lb") rd_memory (Plain (plain.Load Lb))
    ∷ row (codes "lh") rd_memory (Plain (plain.Load Lh))
    ∷ row (codes "lw") rd_memory (Plain (plain.Load Lw))
    ∷ row (codes "lbu") rd_memory (Plain (plain.Load Lbu))
    ∷ row (codes "lhu") rd_memory (Plain (plain.Load Lhu))
    ∷ row (codes "jalr") rd_memory (Plain plain.Jalr)
    ∷ row (codes "sb") rs2_memory (Plain (plain.Store Sb))
    ∷ row (codes "sh") rs2_memory (Plain (plain.Store Sh))
    ∷ row (codes "sw") rs2_memory (Plain (plain.Store Sw))
    ∷ row (codes "beq") rs1_rs2_value (Branch Beq)
    ∷ row (codes "bne") rs1_rs2_value (Branch Bne)
    ∷ row (codes "blt") rs1_rs2_value (Branch Blt)
    ∷ row (codes "bge") rs1_rs2_value (Branch Bge)
    ∷ row (codes "bltu") rs1_rs2_value (Branch Bltu)
    ∷ row (codes "bgeu") rs1_rs2_value (Branch Bgeu)
    ∷ row (codes "jal") (Rd ∷ Value ∷ []) Jal
    ∷ row (codes "lui") (Rd ∷ Number ∷ []) (Plain plain.Lui)
    ∷ row (codes "auipc") (Rd ∷ Number ∷ []) (Plain plain.Auipc)
    ∷ row (codes "csrrw") rd_csr_rs1 (Plain (plain.Csr Rw))
    ∷ row (codes "csrrs") rd_csr_rs1 (Plain (plain.Csr Rs))
    ∷ row (codes "csrrc") rd_csr_rs1 (Plain (plain.Csr Rc))
    ∷ row (codes "csrrwi") rd_csr_number (Plain (plain.CsrImm Rwi))
    ∷ row (codes "csrrsi") rd_csr_number (Plain (plain.CsrImm Rsi))
    ∷ row (codes "csrrci") rd_csr_number (Plain (plain.CsrImm Rci))
    ∷ row (codes "gt") (Rd ∷ []) (Plain plain.Gt)
    ∷ row (codes "gth") (Rd ∷ []) (Plain plain.Gth)
    ∷ row (codes "du") rs1_rs2 (Plain plain.Du)
    ∷ row (codes "wu") rs1_rs2 (Plain plain.Wu)
    ∷ row (codes "ee") rs1_rs2 (Plain plain.Ee)
    ∷ row (codes "de") [] (Plain plain.De)
    ∷ row (codes "ecall") [] (Plain plain.Ecall)
    ∷ row (codes "ebreak") [] (Plain plain.Ebreak)
    ∷ row (codes "mret") [] (Plain plain.Mret)
    ∷ row (codes "fence") [] (Plain plain.Fence)
    ∷ row (codes "fence.i") [] (Plain plain.FenceI)
    ∷ row (codes "nop") [] (Plain (plain.OpImm Addi))
    ∷ row (codes "mv") rd_rs1 (Plain (plain.OpImm Addi))
    ∷ row (codes "not") rd_rs1 (Plain plain.Not)
    ∷ row (codes "neg") (Rd ∷ Rs2 ∷ []) (Plain (plain.Op Sub))
    ∷ row (codes "j") (Value ∷ []) Jal
    ∷ row (codes "jr") (Rs1 ∷ []) (Plain plain.Jalr)
    ∷ row (codes "ret") [] (Plain plain.Ret)
    ∷ row (codes "beqz") (Rs1 ∷ Value ∷ []) (Branch Beq)
    ∷ row (codes "bnez") (Rs1 ∷ Value ∷ []) (Branch Bne)
    ∷ row (codes "csrr") (Rd ∷ Csr ∷ []) (Plain (plain.Csr Rs))
    ∷ row (codes "csrw") (Csr ∷ Rs1 ∷ []) (Plain (plain.Csr Rw))
    ∷ row (codes "li") (Rd ∷ Number ∷ []) Li
    ∷ row (codes "la") (Rd ∷ Value ∷ []) La
    ∷ row (codes ".word") (Value ∷ []) Words
    ∷ row (codes ".org") (Number ∷ []) Org
    ∷ row (codes ".space") (Number ∷ []) Space
    ∷ []

-- the row of a name in a table
abbrev pub row_named : List Mnemonic → Text → Option Mnemonic
row_named rows text = find (λ row. bytes_eq row.name text) rows

-- the mnemonic of a name
unfoldable pub mnemonic : Text → Option Mnemonic
mnemonic text = row_named mnemonics text
