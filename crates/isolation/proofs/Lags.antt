-- The lag of each part of an issue is the table's.
use Rattle.std.proofs.Common.{◌≡◌, ℕ, ◌+◌, Bool, true, false, List, Some, None, refl, ap, arith}
use Rattle.std.specs.Prelude.{if◌then◌else◌, Option, ◌==◌}
use Rattle.std.proofs.lemmas.Bool.Decides.{nat_tests}
use Rattle.rv_decode.specs.Table.{ins}
use Rattle.rv_decode.specs.Lag.{lag}
use Rattle.rv_decode.specs.declared.instruction.Ins.{Ins}
use Rattle.rv_decode.specs.declared.instruction.Ins.TheVariants as i
use Rattle.rv_exec.specs.declared.outcome.Effect.{Effect}
use Rattle.rv_exec.specs.declared.outcome.Effect.TheVariants.{Nothing, Reg, Store, Csr, Trap, Wait}
use Rattle.rv_exec.specs.declared.outcome.Outcome.{Outcome}
use Rattle.rv_exec.specs.Result.{result_of}
use Rattle.timer_unit.specs.Time.{is_due}
use Rattle.core_model.specs.declared.own.Own.{Own}
use Rattle.core_model.specs.Thread.{Thread, Environment, Contents, Execution}
use Rattle.core_model.specs.Thread.{reg_in, reg_effect, with_late_value}
use Rattle.core_model.specs.Traps.{trapped, unless_trap, is_trap}
use Rattle.core_model.specs.Outcomes.{load, store, branch}
use Rattle.core_model.specs.Waiting.{delay, wait, with_armed}
use Rattle.core_model.specs.Csr.{csr_access}
use Rattle.core_model.specs.Issue.{execute_untrapped, run_at, execute_in, execute_word}
use Rattle.core_model.specs.Issue.{effect_of, value_in, issue, source_1, source_2, late_rd}
use Rattle.isolation.specs.LagLaw.{HasLagOfTable}

abbrev pub HasLag : Ins → Outcome → Execution → Type 0
HasLag n o d = d.lag ≡ lag n o.taken (is_trap d.effect)

goes_lag : (a : Environment) (pc : ℕ) (t : Own) (w x y : ℕ) (o : Outcome) (n : Ins) →
    HasLag n o (execute_untrapped a pc t w x y o n)
unfolding execute_untrapped lag load store branch csr_access delay wait
goes_lag a pc t w x y o (i.Lui rd imm) = grind (arith, nat_tests)
goes_lag a pc t w x y o (i.Auipc rd imm) = grind (arith, nat_tests)
goes_lag a pc t w x y o (i.Jal rd off) = grind (arith, nat_tests)
goes_lag a pc t w x y o (i.Jalr rd rs1 imm) = grind (arith, nat_tests)
goes_lag a pc t w x y o (i.Branch op rs1 rs2 off) = grind (arith, nat_tests)
goes_lag a pc t w x y o (i.Load op rd rs1 imm) = grind (arith, nat_tests)
goes_lag a pc t w x y o (i.Store op rs1 rs2 imm) = grind (arith, nat_tests)
goes_lag a pc t w x y o (i.OpImm op rd rs1 imm) = grind (arith, nat_tests)
goes_lag a pc t w x y o (i.Shift op rd rs1 amount) = grind (arith, nat_tests)
goes_lag a pc t w x y o (i.Op op rd rs1 rs2) = grind (arith, nat_tests)
goes_lag a pc t w x y o (i.Muldiv op rd rs1 rs2) = refl
goes_lag a pc t w x y o (i.Fence v) = refl
goes_lag a pc t w x y o i.Ecall = refl
goes_lag a pc t w x y o i.Ebreak = refl
goes_lag a pc t w x y o i.Mret = refl
goes_lag a pc t w x y o (i.Csr op rd n src) = grind (arith, nat_tests)
goes_lag a pc t w x y o (i.Gt rd) = grind (arith, nat_tests)
goes_lag a pc t w x y o (i.Gth rd) = grind (arith, nat_tests)
goes_lag a pc t w x y o (i.Du rs1 rs2) = grind (arith, nat_tests)
goes_lag a pc t w x y o (i.Wu rs1 rs2) = grind (arith, nat_tests)
goes_lag a pc t w x y o (i.Ee rs1 rs2) = refl
goes_lag a pc t w x y o i.De = refl
goes_lag a pc t w x y o (i.Illegal v) = refl

unless_lag : (pc : ℕ) (t : Own) (w : ℕ) (n : Ins) (o : Outcome) (trap : Option ℕ) (d : Execution) →
    HasLag n o d → HasLag n o (unless_trap pc t w trap d)
unfolding lag
unless_lag pc t w n o (Some cause) d h = refl
unless_lag pc t w n o None d h = h

run_lag : (a : Environment) (pc : ℕ) (t : Own) (w x y : ℕ) (n : Ins) →
    HasLag n (result_of n pc x y) (run_at a pc t w x y n)
unfolding run_at
run_lag a pc t w x y n =
    unless_lag pc t w n (result_of n pc x y) _ _ (goes_lag a pc t w x y (result_of n pc x y) n)

act_lag : (a : Environment) (pc : ℕ) (t : Own) (expired : Bool) (w x y : ℕ) →
    HasLag (ins w) (result_of (ins w) pc x y) (execute_in a pc t expired w x y)
unfolding execute_in lag
act_lag a pc t expired w x y = go expired (a.fetch pc)
  where
    go : (e f : Bool) →
        HasLag (ins w) (result_of (ins w) pc x y) (if e then trapped pc (with_armed t None) 0 24
        else if f then run_at a pc t w x y (ins w) else trapped pc t 0 1)
    go true f = refl
    go false true = run_lag a pc t w x y (ins w)
    go false false = refl

no_trap : (rd value : ℕ) → is_trap (Some (reg_effect rd value)) ≡ false
no_trap rd value = go (rd == 0)
  where
    go : (b : Bool) → is_trap (Some (if b then Nothing else Reg rd value)) ≡ false
    go true = refl
    go false = refl

-- a late value turns no effect into a trap, nor a trap into another effect
filled_trap : (late : Option ℕ) (value : ℕ) (effect : Option Effect) →
    is_trap (with_late_value late value effect) ≡ is_trap effect
filled_trap None value effect = refl
filled_trap (Some rd) value None = refl
filled_trap (Some rd) value (Some Nothing) = no_trap rd value
filled_trap (Some rd) value (Some (Reg x v)) = refl
filled_trap (Some rd) value (Some (Store address size v)) = refl
filled_trap (Some rd) value (Some (Csr csr v x old)) = refl
filled_trap (Some rd) value (Some (Trap cause target)) = refl
filled_trap (Some rd) value (Some Wait) = refl

done_lag : (m : Contents) (c : ℕ) (regs : List ℕ) (n : Ins) (o : Outcome) (d : Execution) →
    HasLag n o d → c + d.lag ≡ c + lag n o.taken (is_trap (effect_of m regs d))
unfolding effect_of
done_lag m c regs n o d h =
    rw (filled_trap (late_rd (ins d.word)) (value_in m regs d) d.effect) (ap (λ k. c + k) h)

pub issue_lag : (a : Environment) (m : Contents) (c : ℕ) (t : Thread) → HasLagOfTable a m c t
unfolding issue execute_word
issue_lag a m c t =
    let w : ℕ = m.code t.pc in
    let x : ℕ = reg_in t.regs (source_1 (ins w)) in
    let y : ℕ = reg_in t.regs (source_2 (ins w)) in
    done_lag m c t.regs (ins w) (result_of (ins w) t.pc x y) _
    (act_lag a t.pc t.own (is_due t.own.timer.armed a.now) w x y)
