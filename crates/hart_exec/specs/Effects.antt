-- The access of a CSR instruction, and predicates on effects, words and targets.
use Rattle.std.specs.Prelude.{◌≡◌, ◌≢◌, ℕ, ◌%◌, ◌||◌, Bool, true, false, not, Option, Some, None}
use Rattle.rv_decode.specs.declared.instruction.Ins.{Ins}
use Rattle.rv_decode.specs.declared.instruction.Ins.TheVariants as row
use Rattle.rv_decode.specs.declared.instruction.CsrKind.{CsrKind}
use Rattle.rv_exec.specs.declared.outcome.Outcome.{Outcome}
use Rattle.rv_exec.specs.Line.{IsPrintable}
use Rattle.rv_exec.specs.declared.outcome.Effect.{Effect}
use Rattle.rv_exec.specs.declared.outcome.Effect.TheVariants.{Store, Trap}
use Rattle.core_model.specs.Issue.{csr_op, csr_operand, csr_writes}
use Rattle.core_model.specs.Thread.{Execution}
use Rattle.core_model.specs.Traps.{is_trap}
use Rattle.hart_exec.specs.declared.csr.Access.{Access}

-- the access that a CSR instruction requires
abbrev pub access_of : CsrKind → ℕ → ℕ → Access
access_of kind src a =
    record { op = csr_op kind; operand = csr_operand kind src a; writes = csr_writes kind src }

-- whether an instruction is on control registers, traps or time
abbrev pub is_rare : Ins → Bool
is_rare row.Mret = true
is_rare (row.Csr op rd csr src) = true
is_rare (row.Gt rd) = true
is_rare (row.Gth rd) = true
is_rare (row.Du rs1 rs2) = true
is_rare (row.Wu rs1 rs2) = true
is_rare (row.Ee rs1 rs2) = true
is_rare row.De = true
is_rare _ = false

-- whether an instruction with this execution is frequent: it isn't rare, and doesn't trap
abbrev pub is_frequent : Ins → Execution → Bool
is_frequent i d = not (is_rare i || is_trap d.effect)

-- the address of a store is a multiple of its number of bytes
abbrev pub IsAlignedStore : Option Effect → Type 0
IsAlignedStore (Some (Store address size value)) = address % size ≡ 0
IsAlignedStore _ = Unit {0}

-- an effect can be shown in a line of a trace
abbrev pub IsPrintableEffect : Option Effect → Type 0
IsPrintableEffect (Some effect) = IsPrintable effect
IsPrintableEffect None = Unit {0}

-- a word is shown, and so isn't 0, unless its instruction traps
abbrev pub HasWord : Option Effect → ℕ → Type 0
HasWord (Some (Trap cause target)) word = Unit {0}
HasWord _ word = word ≢ 0

-- the target of a jump, and of a branch that is taken, is a multiple of four
abbrev pub HasTarget : Ins → Outcome → Type 0
HasTarget (row.Jal rd off) o = o.target % 4 ≡ 0
HasTarget (row.Jalr rd rs1 imm) o = o.target % 4 ≡ 0
HasTarget (row.Branch op rs1 rs2 off) o = o.taken ≡ true → o.target % 4 ≡ 0
HasTarget _ o = Unit {0}
