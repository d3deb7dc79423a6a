-- One whole instruction of one thread, as a function of its environment and of the words it reads.
use Rattle.std.specs.Prelude.{ℕ, ◌+◌, ◌/◌, ◌%◌, ◌^◌, ◌==◌, Bool, true, false}
use Rattle.std.specs.Prelude.{not, if◌then◌else◌, List, Option, Some, None}
use Rattle.rv_decode.specs.Table.{ins}
use Rattle.rv_decode.specs.declared.instruction.Ins.{Ins}
use Rattle.rv_decode.specs.declared.instruction.Ins.TheVariants.{Lui, Auipc, Jal, Jalr, Branch}
use Rattle.rv_decode.specs.declared.instruction.Ins.TheVariants.{Load, Store, OpImm, Shift}
use Rattle.rv_decode.specs.declared.instruction.Ins.TheVariants.{Op, Muldiv, Fence, Mret}
use Rattle.rv_decode.specs.declared.instruction.Ins.TheVariants.{Csr, Gt, Gth, Du, Wu, Ee, De}
use Rattle.rv_decode.specs.declared.instruction.CsrKind.{CsrKind}
use Rattle.rv_decode.specs.declared.instruction.CsrKind.TheVariants.{Rw, Rs, Rc, Rwi, Rsi, Rci}
use Rattle.rv_decode.specs.Lag.{plain_lag, late_lag, redirect_lag}
use Rattle.rv_exec.specs.declared.outcome.Effect.{Effect}
use Rattle.rv_exec.specs.declared.outcome.Effect.TheVariants.{Nothing}
use Rattle.rv_exec.specs.declared.outcome.Outcome.{Outcome}
use Rattle.rv_exec.specs.Result.{result_of}
use Rattle.rv_exec.specs.Alu.{mul_result}
use Rattle.rv_exec.specs.Access.{load_size, store_size, loaded_value}
use Rattle.rv_exec.specs.TrapCauses.{cause_illegal, cause_expiry, cause_fetch_fault}
use Rattle.timer_unit.specs.Time.{moment, is_due}
use Rattle.core_model.specs.declared.own.Own.{Own}
use Rattle.core_model.specs.declared.own.CsrOp.{CsrOp}
use Rattle.core_model.specs.declared.own.CsrOp.TheVariants.{Swap, Set, Clear}
use Rattle.core_model.specs.Thread.{Thread, Environment, Contents, Execution, Completion}
use Rattle.core_model.specs.Thread.{reg_in, reg_effect, regs_after, with_late_value}
use Rattle.core_model.specs.Traps.{trap_return, trapped, unless_trap}
use Rattle.core_model.specs.Outcomes.{advance, write, load, store, go_to, branch}
use Rattle.core_model.specs.Waiting.{delay, wait, with_armed, with_high}
use Rattle.core_model.specs.Csr.{csr_access}

-- the register that a CSR instruction reads, x0 if it has an immediate
abbrev pub csr_source : CsrKind → ℕ → ℕ
csr_source Rw src = src
csr_source Rs src = src
csr_source Rc src = src
csr_source Rwi src = 0
csr_source Rsi src = 0
csr_source Rci src = 0

-- the first register that an instruction reads, x0 if it reads none
abbrev pub source_1 : Ins → ℕ
source_1 (Jalr rd rs1 imm) = rs1
source_1 (Branch op rs1 rs2 off) = rs1
source_1 (Load op rd rs1 imm) = rs1
source_1 (Store op rs1 rs2 imm) = rs1
source_1 (OpImm op rd rs1 imm) = rs1
source_1 (Shift op rd rs1 amount) = rs1
source_1 (Op op rd rs1 rs2) = rs1
source_1 (Muldiv op rd rs1 rs2) = rs1
source_1 (Csr op rd csr src) = csr_source op src
source_1 (Du rs1 rs2) = rs1
source_1 (Wu rs1 rs2) = rs1
source_1 (Ee rs1 rs2) = rs1
source_1 _ = 0

-- the second register that it reads, x0 if it reads none
abbrev pub source_2 : Ins → ℕ
source_2 (Branch op rs1 rs2 off) = rs2
source_2 (Store op rs1 rs2 imm) = rs2
source_2 (Op op rd rs1 rs2) = rs2
source_2 (Muldiv op rd rs1 rs2) = rs2
source_2 (Du rs1 rs2) = rs2
source_2 (Wu rs1 rs2) = rs2
source_2 (Ee rs1 rs2) = rs2
source_2 _ = 0

-- the destination register of an instruction whose value comes late
abbrev pub late_rd : Ins → Option ℕ
late_rd (Load op rd rs1 imm) = Some rd
late_rd (Muldiv op rd rs1 rs2) = Some rd
late_rd _ = None

-- whether an instruction is a load
abbrev pub is_load : Ins → Bool
is_load (Load op rd rs1 imm) = true
is_load _ = false

-- the late value, from the loaded word, its address and the values of the sources
abbrev pub late_value : Ins → ℕ → ℕ → ℕ → ℕ → ℕ
late_value (Load op rd rs1 imm) word address x y = loaded_value op address word
late_value (Muldiv op rd rs1 rs2) word address x y = mul_result op x y
late_value _ word address x y = 0

-- the operation of each of the six CSR instructions
abbrev pub csr_op : CsrKind → CsrOp
csr_op Rw = Swap
csr_op Rs = Set
csr_op Rc = Clear
csr_op Rwi = Swap
csr_op Rsi = Set
csr_op Rci = Clear

-- its operand: the value of the source register, or the immediate
abbrev pub csr_operand : CsrKind → ℕ → ℕ → ℕ
csr_operand Rw src x = x
csr_operand Rs src x = x
csr_operand Rc src x = x
csr_operand Rwi src x = src
csr_operand Rsi src x = src
csr_operand Rci src x = src

-- whether it writes: a swap always does, the others if their source field is not 0
abbrev pub csr_writes : CsrKind → ℕ → Bool
csr_writes Rw src = true
csr_writes Rs src = not (src == 0)
csr_writes Rc src = not (src == 0)
csr_writes Rwi src = true
csr_writes Rsi src = not (src == 0)
csr_writes Rci src = not (src == 0)

-- the execution of an instruction without a trap, from its result and the values of its sources.
-- The last line covers ECALL, EBREAK and an illegal word; their result always has a trap
unfoldable pub execute_untrapped : Environment → ℕ → Own → ℕ → ℕ → ℕ → Outcome → Ins → Execution
execute_untrapped a pc t word x y o (Lui rd imm) = write pc t word plain_lag rd o.value
execute_untrapped a pc t word x y o (Auipc rd imm) = write pc t word plain_lag rd o.value
execute_untrapped a pc t word x y o (Jal rd off) = go_to t word o.target (reg_effect rd o.value)
execute_untrapped a pc t word x y o (Jalr rd rs1 imm) =
    go_to t word o.target (reg_effect rd o.value)
execute_untrapped a pc t word x y o (Branch op rs1 rs2 off) = branch pc t word o.taken o.target
execute_untrapped a pc t word x y o (Load op rd rs1 imm) =
    load pc t word o.address (a.load o.address (load_size op))
execute_untrapped a pc t word x y o (Store op rs1 rs2 imm) =
    store pc t word o.address (store_size op) (y % 256 ^ store_size op)
    (a.store o.address (store_size op))
execute_untrapped a pc t word x y o (OpImm op rd rs1 imm) = write pc t word plain_lag rd o.value
execute_untrapped a pc t word x y o (Shift op rd rs1 amount) = write pc t word plain_lag rd o.value
execute_untrapped a pc t word x y o (Op op rd rs1 rs2) = write pc t word plain_lag rd o.value
execute_untrapped a pc t word x y o (Muldiv op rd rs1 rs2) = advance pc t word late_lag Nothing
execute_untrapped a pc t word x y o (Fence w) = advance pc t word plain_lag Nothing
execute_untrapped a pc t word x y o Mret = trap_return t word
execute_untrapped a pc t word x y o (Csr op rd csr src) =
    csr_access a.thread pc t word rd csr (csr_op op) (csr_operand op src x) (csr_writes op src)
    (a.shared csr)
execute_untrapped a pc t word x y o (Gt rd) =
    write pc (with_high t (a.now / 2 ^ 32)) word plain_lag rd (a.now % 2 ^ 32)
execute_untrapped a pc t word x y o (Gth rd) = write pc t word plain_lag rd t.timer.high
execute_untrapped a pc t word x y o (Du rs1 rs2) = delay a.now pc t word (moment x y)
execute_untrapped a pc t word x y o (Wu rs1 rs2) = wait a.now pc t word (moment x y)
execute_untrapped a pc t word x y o (Ee rs1 rs2) =
    advance pc (with_armed t (Some (moment x y))) word redirect_lag Nothing
execute_untrapped a pc t word x y o De = advance pc (with_armed t None) word redirect_lag Nothing
execute_untrapped a pc t word x y o _ = trapped pc t word cause_illegal

-- the execution of an instruction, from the values of its sources
unfoldable pub run_at : Environment → ℕ → Own → ℕ → ℕ → ℕ → Ins → Execution
run_at a pc t word x y i =
    let o = result_of i pc x y in
    unless_trap pc t word o.trap (execute_untrapped a pc t word x y o i)

-- the execution of a word, without its late value. An expiry comes before all else and disarms the
-- timer; then comes a refused fetch. Both have the word 0
unfoldable pub execute_in : Environment → ℕ → Own → Bool → ℕ → ℕ → ℕ → Execution
execute_in a pc t expired word x y =
    if expired then trapped pc (with_armed t None) 0 cause_expiry
    else if a.fetch pc then run_at a pc t word x y (ins word)
    else trapped pc t 0 cause_fetch_fault

-- the execution of a word at the thread's pc, with the thread's own registers
unfoldable pub execute_word : Environment → ℕ → Thread → Execution
execute_word a word t =
    execute_in a t.pc t.own (is_due t.own.timer.armed a.now) word
    (reg_in t.regs (source_1 (ins word))) (reg_in t.regs (source_2 (ins word)))

-- the late value, from the registers and the words that the instruction reads
abbrev pub value_in : Contents → List ℕ → Execution → ℕ
value_in m regs d =
    let i = ins d.word in
    late_value i (m.at d.address) d.address (reg_in regs (source_1 i)) (reg_in regs (source_2 i))

-- the whole effect, with the late value in its place
unfoldable pub effect_of : Contents → List ℕ → Execution → Option Effect
effect_of m regs d = with_late_value (late_rd (ins d.word)) (value_in m regs d) d.effect

-- the thread after the instruction, with its word and effect
abbrev pub completion_of : ℕ → List ℕ → Execution → Option Effect → Completion
completion_of c regs d e = record {
  thread = record { pc = d.pc; ready = c + d.lag; own = d.own; regs = regs_after e regs };
  word = d.word;
  effect = e;
}

-- one whole instruction, in cycle c
unfoldable pub issue : Environment → Contents → ℕ → Thread → Completion
issue a m c t =
    let d = execute_word a (m.code t.pc) t in completion_of c t.regs d (effect_of m t.regs d)
