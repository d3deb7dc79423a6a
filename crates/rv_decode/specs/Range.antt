-- The values that an instruction's fields may have.
use Rattle.std.specs.Prelude.{◌≡◌, ◌<◌, ℕ, ◌-◌, ◌^◌, ℤ, pos, ◌≤ℤ◌, ◌<ℤ◌, ◌+ℤ◌}
use Rattle.rv_decode.specs.Fields.{field}
use Rattle.rv_decode.specs.Table.{ins}
use Rattle.rv_decode.specs.declared.instruction.Ins.{Ins}
use Rattle.rv_decode.specs.declared.instruction.Ins.TheVariants.{Lui, Auipc, Jal, Jalr, Branch}
use Rattle.rv_decode.specs.declared.instruction.Ins.TheVariants.{Load, Store, OpImm, Shift}
use Rattle.rv_decode.specs.declared.instruction.Ins.TheVariants.{Op, Muldiv, Fence, Ecall}
use Rattle.rv_decode.specs.declared.instruction.Ins.TheVariants.{Ebreak, Mret, Csr, Gt, Gth}
use Rattle.rv_decode.specs.declared.instruction.Ins.TheVariants.{Du, Wu, Ee, De, Illegal}

-- an integer that fits a number of bits in two's complement
abbrev pub IsSigned : ℕ → ℤ → Type 0
IsSigned count n = (pos 0 ≤ℤ (n +ℤ pos (2 ^ (count - 1)))) × (n <ℤ pos (2 ^ (count - 1)))

-- twice a whole number
abbrev pub IsEven : ℤ → Type 0
IsEven n = (k : ℤ) × (n ≡ k +ℤ k)

-- Registers are below 32, immediates and offsets fit their fields, and a word that is stored whole
-- belongs to the variant that stores it.
abbrev pub InRange : Ins → Type 0
InRange (Lui rd imm) = (rd < 32) × (imm < 2 ^ 20)
InRange (Auipc rd imm) = (rd < 32) × (imm < 2 ^ 20)
InRange (Jal rd off) = (rd < 32) × IsSigned 21 off × IsEven off
InRange (Jalr rd rs1 imm) = (rd < 32) × (rs1 < 32) × IsSigned 12 imm
InRange (Branch op rs1 rs2 off) = (rs1 < 32) × (rs2 < 32) × IsSigned 13 off × IsEven off
InRange (Load op rd rs1 imm) = (rd < 32) × (rs1 < 32) × IsSigned 12 imm
InRange (Store op rs1 rs2 imm) = (rs1 < 32) × (rs2 < 32) × IsSigned 12 imm
InRange (OpImm op rd rs1 imm) = (rd < 32) × (rs1 < 32) × IsSigned 12 imm
InRange (Shift op rd rs1 amount) = (rd < 32) × (rs1 < 32) × (amount < 32)
InRange (Op op rd rs1 rs2) = (rd < 32) × (rs1 < 32) × (rs2 < 32)
InRange (Muldiv op rd rs1 rs2) = (rd < 32) × (rs1 < 32) × (rs2 < 32)
InRange (Fence w) = (field w 0 7 ≡ 0x0f) × (field w 12 3 < 2)
InRange Ecall = Unit {0}
InRange Ebreak = Unit {0}
InRange Mret = Unit {0}
InRange (Csr op rd csr src) = (rd < 32) × (csr < 4096) × (src < 32)
InRange (Gt rd) = rd < 32
InRange (Gth rd) = rd < 32
InRange (Du rs1 rs2) = (rs1 < 32) × (rs2 < 32)
InRange (Wu rs1 rs2) = (rs1 < 32) × (rs2 < 32)
InRange (Ee rs1 rs2) = (rs1 < 32) × (rs2 < 32)
InRange De = Unit {0}
InRange (Illegal w) = ins w ≡ Illegal w

-- Every register of the instruction is below 32, and so is the immediate of the immediate CSR
-- forms, which is in a register's field.
abbrev pub HasRegisters : Ins → Type 0
HasRegisters (Lui rd imm) = rd < 32
HasRegisters (Auipc rd imm) = rd < 32
HasRegisters (Jal rd off) = rd < 32
HasRegisters (Jalr rd rs1 imm) = (rd < 32) × (rs1 < 32)
HasRegisters (Branch op rs1 rs2 off) = (rs1 < 32) × (rs2 < 32)
HasRegisters (Load op rd rs1 imm) = (rd < 32) × (rs1 < 32)
HasRegisters (Store op rs1 rs2 imm) = (rs1 < 32) × (rs2 < 32)
HasRegisters (OpImm op rd rs1 imm) = (rd < 32) × (rs1 < 32)
HasRegisters (Shift op rd rs1 amount) = (rd < 32) × (rs1 < 32)
HasRegisters (Op op rd rs1 rs2) = (rd < 32) × (rs1 < 32) × (rs2 < 32)
HasRegisters (Muldiv op rd rs1 rs2) = (rd < 32) × (rs1 < 32) × (rs2 < 32)
HasRegisters (Fence w) = Unit {0}
HasRegisters Ecall = Unit {0}
HasRegisters Ebreak = Unit {0}
HasRegisters Mret = Unit {0}
HasRegisters (Csr op rd csr src) = (rd < 32) × (src < 32)
HasRegisters (Gt rd) = rd < 32
HasRegisters (Gth rd) = rd < 32
HasRegisters (Du rs1 rs2) = (rs1 < 32) × (rs2 < 32)
HasRegisters (Wu rs1 rs2) = (rs1 < 32) × (rs2 < 32)
HasRegisters (Ee rs1 rs2) = (rs1 < 32) × (rs2 < 32)
HasRegisters De = Unit {0}
HasRegisters (Illegal w) = Unit {0}
