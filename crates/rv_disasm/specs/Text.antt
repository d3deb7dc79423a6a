-- The text of a word at its address, as the assembler reads it.
use Rattle.std.specs.Prelude.{ℕ, ◌==◌, ◌+◌, ◌%◌, ◌^◌, ℤ, pos, List, [], ◌∷◌, codes, if◌then◌else◌}
use Rattle.rv_decode.specs.Encoding.{low_bits}
use Rattle.rv_decode.specs.Table.{ins}
use Rattle.rv_decode.specs.declared.instruction.Ins.{Ins}
use Rattle.rv_decode.specs.declared.instruction.Ins.TheVariants.{Lui, Auipc, Jal, Jalr, Branch}
use Rattle.rv_decode.specs.declared.instruction.Ins.TheVariants.{Load, Store, OpImm, Shift}
use Rattle.rv_decode.specs.declared.instruction.Ins.TheVariants.{Op, Muldiv, Fence, Ecall}
use Rattle.rv_decode.specs.declared.instruction.Ins.TheVariants.{Ebreak, Mret, Csr, Gt, Gth}
use Rattle.rv_decode.specs.declared.instruction.Ins.TheVariants.{Du, Wu, Ee, De, Illegal}
use Rattle.rv_decode.specs.declared.instruction.BranchOp.{BranchOp}
use Rattle.rv_decode.specs.declared.instruction.CsrKind.{CsrKind}
use Rattle.rv_decode.specs.declared.instruction.CsrKind.TheVariants.{Rw, Rs, Rc, Rwi, Rsi, Rci}
use Rattle.rv_disasm.specs.Names.{branch_name, load_name, store_name, imm_name}
use Rattle.rv_disasm.specs.Names.{shift_name, alu_name, mul_name, csr_name}
use Rattle.fp_asm.specs.Pieces.{Text}
use Rattle.rv_disasm.specs.TextTokens.{TextToken, counted, digits, Line, line, line_text}
use Rattle.rv_disasm.specs.TextTokens.{register_token, two_registers, three_registers, with_number}
use Rattle.rv_disasm.specs.TextTokens.{with_memory, with_csr, with_upper, with_target, with_branch}

-- a word as it is
abbrev pub word_line : ℕ → Line
word_line w = line (codes ".word") (digits 8 w ∷ [])

-- the target of a branch or a jump
abbrev pub target : ℕ → ℤ → ℕ
target pc off = (pc + low_bits 32 off) % 2 ^ 32

-- The line of a branch or a jump to an address. It is `.word` if the address is no multiple of
-- four: the assembler has no other text for that.
abbrev pub leading : ℕ → ℕ → Text → List TextToken → Line
leading w to name operands = if to % 4 == 0 then line name operands else word_line w

abbrev pub jump_line : ℕ → ℕ → ℕ → ℤ → Line
jump_line pc w rd off = leading w (target pc off) (codes "jal") (with_target rd (target pc off))

abbrev pub branch_line : ℕ → ℕ → BranchOp → ℕ → ℕ → ℤ → Line
branch_line pc w op rs1 rs2 off =
    leading w (target pc off) (branch_name op) (with_branch rs1 rs2 (target pc off))

-- FENCE and FENCE.I with the bits that their texts assemble to; their other words have no text
abbrev pub fence_line : ℕ → Line
fence_line w =
    if w == 0x0ff0000f then line (codes "fence") []
    else if w == 0x0000100f then line (codes "fence.i") [] else word_line w

-- the source of an instruction on control and status registers
abbrev pub csr_source : CsrKind → ℕ → TextToken
csr_source Rw src = register_token src
csr_source Rs src = register_token src
csr_source Rc src = register_token src
csr_source Rwi src = counted src
csr_source Rsi src = counted src
csr_source Rci src = counted src

-- The line of the word w at an address, from its instruction.
unfoldable pub line_of : ℕ → ℕ → Ins → Line
line_of pc w (Lui rd imm) = line (codes "lui") (with_upper rd imm)
line_of pc w (Auipc rd imm) = line (codes "auipc") (with_upper rd imm)
line_of pc w (Jal rd off) = jump_line pc w rd off
line_of pc w (Jalr rd rs1 imm) = line (codes "jalr") (with_memory rd imm rs1)
line_of pc w (Branch op rs1 rs2 off) = branch_line pc w op rs1 rs2 off
line_of pc w (Load op rd rs1 imm) = line (load_name op) (with_memory rd imm rs1)
line_of pc w (Store op rs1 rs2 imm) = line (store_name op) (with_memory rs2 imm rs1)
line_of pc w (OpImm op rd rs1 imm) = line (imm_name op) (with_number rd rs1 imm)
line_of pc w (Shift op rd rs1 amount) = line (shift_name op) (with_number rd rs1 (pos amount))
line_of pc w (Op op rd rs1 rs2) = line (alu_name op) (three_registers rd rs1 rs2)
line_of pc w (Muldiv op rd rs1 rs2) = line (mul_name op) (three_registers rd rs1 rs2)
line_of pc w (Fence x) = fence_line w
line_of pc w Ecall = line (codes "ecall") []
line_of pc w Ebreak = line (codes "ebreak") []
line_of pc w Mret = line (codes "mret") []
line_of pc w (Csr op rd csr src) = line (csr_name op) (with_csr rd csr (csr_source op src))
line_of pc w (Gt rd) = line (codes "gt") (register_token rd ∷ [])
line_of pc w (Gth rd) = line (codes "gth") (register_token rd ∷ [])
line_of pc w (Du rs1 rs2) = line (codes "du") (two_registers rs1 rs2)
line_of pc w (Wu rs1 rs2) = line (codes "wu") (two_registers rs1 rs2)
line_of pc w (Ee rs1 rs2) = line (codes "ee") (two_registers rs1 rs2)
line_of pc w De = line (codes "de") []
line_of pc w (Illegal x) = word_line w

-- the text of a word at its address
unfoldable pub text_at : ℕ → ℕ → Text
text_at pc w = line_text (line_of pc w (ins w))
