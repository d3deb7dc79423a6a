-- The outcome of an instruction, from its pc and the values a and b of rs1 and rs2.
use Rattle.std.specs.Prelude.{ℕ, ◌+◌, ◌-◌, ◌*◌, ◌%◌, ◌^◌, ◌==◌, ℤ, pos, ◌+ℤ◌, Bool}
use Rattle.std.specs.Prelude.{false, not, Option, Some, None, nat_lt, if◌then◌else◌}
use Rattle.rv_exec.specs.Words.{signed, word, below}
use Rattle.rv_exec.specs.Alu.{alu_result, alu_result_with, shift_result, mul_result}
use Rattle.rv_exec.specs.Access.{load_size, store_size, is_aligned}
use Rattle.rv_exec.specs.declared.outcome.Outcome.{Outcome}
use Rattle.rv_decode.specs.declared.instruction.Ins.{Ins}
use Rattle.rv_decode.specs.declared.instruction.Ins.TheVariants.{Lui, Auipc, Jal, Jalr, Branch}
use Rattle.rv_decode.specs.declared.instruction.Ins.TheVariants.{Load, Store, OpImm, Shift}
use Rattle.rv_decode.specs.declared.instruction.Ins.TheVariants.{Op, Muldiv, Fence, Ecall}
use Rattle.rv_decode.specs.declared.instruction.Ins.TheVariants.{Ebreak, Mret, Csr, Gt, Gth}
use Rattle.rv_decode.specs.declared.instruction.Ins.TheVariants.{Du, Wu, Ee, De, Illegal}
use Rattle.rv_decode.specs.declared.instruction.BranchOp.{BranchOp}
use Rattle.rv_decode.specs.declared.instruction.BranchOp.TheVariants.{Beq, Bne, Blt}
use Rattle.rv_decode.specs.declared.instruction.BranchOp.TheVariants.{Bge, Bltu, Bgeu}
use Rattle.rv_exec.specs.TrapCauses.{cause_misaligned_target, cause_illegal}
use Rattle.rv_exec.specs.TrapCauses.{cause_breakpoint, cause_misaligned_load}
use Rattle.rv_exec.specs.TrapCauses.{cause_misaligned_store, cause_environment_call}

-- "Conditional Branches"
unfoldable pub is_taken : BranchOp → ℕ → ℕ → Bool
is_taken Beq a b = a == b
is_taken Bne a b = not (a == b)
is_taken Blt a b = below (signed a) (signed b)
is_taken Bge a b = not (below (signed a) (signed b))
is_taken Bltu a b = nat_lt a b
is_taken Bgeu a b = not (nat_lt a b)

-- a word plus a signed offset, modulo 2 ^ 32
abbrev pub offset : ℕ → ℤ → ℕ
offset a n = word (pos a +ℤ n)

-- a number with its lowest bit cleared
abbrev pub even_below : ℕ → ℕ
even_below a = a - a % 2

-- a trap's cause if a test fails
abbrev pub unless : Bool → ℕ → Option ℕ
unless b cause = if b then None else Some cause

-- an empty outcome; a value for rd, if any, comes from elsewhere
abbrev pub nothing : Outcome
nothing = record { value = 0; address = 0; target = 0; taken = false; trap = None }

-- a word for rd
abbrev pub of_value : ℕ → Outcome
of_value n = record nothing { value = n }

-- only a trap
abbrev pub of_trap : ℕ → Outcome
of_trap cause = record nothing { trap = Some cause }

-- an access of a number of bytes at an address; it traps if the address isn't aligned
abbrev pub of_access : ℕ → ℕ → ℕ → Outcome
of_access address size cause =
    record nothing { address = address; trap = unless (is_aligned address size) cause }

-- a jump with the word for rd; it traps if its target is no multiple of 4
abbrev pub of_jump : ℕ → ℕ → Outcome
of_jump link target = record nothing {
  value = link;
  target = target;
  trap = unless (is_aligned target 4) cause_misaligned_target;
}

-- a branch; it traps if it is taken to a target that is no multiple of 4
abbrev pub of_branch : Bool → ℕ → Outcome
of_branch taken target = record nothing {
  target = target;
  taken = taken;
  trap = if taken then unless (is_aligned target 4) cause_misaligned_target else None;
}

-- the outcome of each instruction
unfoldable pub result_of : Ins → ℕ → ℕ → ℕ → Outcome
result_of (Lui rd imm) pc a b = of_value (imm * 2 ^ 12 % 2 ^ 32)
result_of (Auipc rd imm) pc a b = of_value ((pc + imm * 2 ^ 12) % 2 ^ 32)
result_of (Jal rd off) pc a b = of_jump ((pc + 4) % 2 ^ 32) (offset pc off)
result_of (Jalr rd rs1 imm) pc a b = of_jump ((pc + 4) % 2 ^ 32) (even_below (offset a imm))
result_of (Branch op rs1 rs2 off) pc a b = of_branch (is_taken op a b) (offset pc off)
result_of (Load op rd rs1 imm) pc a b =
    of_access (offset a imm) (load_size op) cause_misaligned_load
result_of (Store op rs1 rs2 imm) pc a b =
    of_access (offset a imm) (store_size op) cause_misaligned_store
result_of (OpImm op rd rs1 imm) pc a b = of_value (alu_result_with op a imm)
result_of (Shift op rd rs1 amount) pc a b = of_value (shift_result op a amount)
result_of (Op op rd rs1 rs2) pc a b = of_value (alu_result op a b)
result_of (Muldiv op rd rs1 rs2) pc a b = of_value (mul_result op a b)
result_of (Fence w) pc a b = nothing
result_of Ecall pc a b = of_trap cause_environment_call
result_of Ebreak pc a b = of_trap cause_breakpoint
result_of Mret pc a b = nothing
result_of (Csr op rd csr src) pc a b = nothing
result_of (Gt rd) pc a b = nothing
result_of (Gth rd) pc a b = nothing
result_of (Du rs1 rs2) pc a b = nothing
result_of (Wu rs1 rs2) pc a b = nothing
result_of (Ee rs1 rs2) pc a b = nothing
result_of De pc a b = nothing
result_of (Illegal w) pc a b = of_trap cause_illegal
