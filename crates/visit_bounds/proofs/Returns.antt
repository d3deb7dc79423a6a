-- A return that doesn't trap has a jump's lag.
use Rattle.std.proofs.Common.{◌≡◌, ℕ, ◌+◌, ℤ, pos, Bool, true, false, Option, Some}
use Rattle.std.proofs.Common.{None, if◌then◌else◌, refl, arith, sym, ap, subst, ◌∙◌}
use Rattle.std.proofs.lemmas.Bool.Decides.{nat_tests}
use Rattle.rv_decode.specs.Table.{ins, rows, lui_rows, auipc_rows, jal_rows, jalr_rows}
use Rattle.rv_decode.specs.Table.{branch_rows, load_rows, store_rows, imm_rows}
use Rattle.rv_decode.specs.Table.{op_rows, fence_rows, system_rows, time_rows}
use Rattle.rv_decode.specs.declared.instruction.Ins.{Ins}
use Rattle.rv_decode.specs.declared.instruction.Ins.TheVariants.{Jalr}
use Rattle.rv_exec.specs.Result.{result_of}
use Rattle.core_model.specs.declared.own.Own.{Own}
use Rattle.core_model.specs.Thread.{Environment, Contents, Execution, Thread, reg_in}
use Rattle.core_model.specs.Traps.{trapped, unless_trap, is_trap}
use Rattle.core_model.specs.Issue.{execute_in, execute_word, effect_of, execute_untrapped}
use Rattle.core_model.specs.Issue.{issue, late_rd, run_at, source_1, source_2, value_in}
use Rattle.timer_unit.specs.Time.{is_due}
use Rattle.visit_bounds.proofs.Instructions.{filled-trap}
use Rattle.call_bounds.specs.Calls.{is_back}

pub ins-back : ins 0x00008067 ≡ Jalr 0 1 (pos 0)
unfolding ins rows lui_rows auipc_rows jal_rows jalr_rows branch_rows load_rows store_rows imm_rows
    op_rows fence_rows system_rows time_rows
ins-back = refl

pub back-is : (w : ℕ) → is_back w ≡ true → w ≡ 0x00008067
back-is w h = grind (arith, nat_tests)

-- it is a jump
record Jumped (sleep : ℕ) (d : Execution) : Type 0 where
  lag : d.lag ≡ 3
  sleeps : d.own.sleep ≡ sleep

goes-jumps : (a : Environment) (pc : ℕ) (t : Own) (w x y rd rs1 : ℕ) (imm : ℤ) → Jumped t.sleep
    (execute_untrapped a pc t w x y (result_of (Jalr rd rs1 imm) pc x y) (Jalr rd rs1 imm))
unfolding execute_untrapped
goes-jumps a pc t w x y rd rs1 imm = record { lag = refl; sleeps = refl }

unless-jumps : (a : Environment) (pc : ℕ) (t : Own) (w x y rd rs1 : ℕ) (imm : ℤ) (trap : Option ℕ) →
    is_trap (unless_trap pc t w trap
    (execute_untrapped a pc t w x y (result_of (Jalr rd rs1 imm) pc x y) (Jalr rd rs1 imm))).effect
    ≡ false → Jumped t.sleep (unless_trap pc t w trap
    (execute_untrapped a pc t w x y (result_of (Jalr rd rs1 imm) pc x y) (Jalr rd rs1 imm)))
unless-jumps a pc t w x y rd rs1 imm (Some cause) h = cc
unless-jumps a pc t w x y rd rs1 imm None h = goes-jumps a pc t w x y rd rs1 imm

act-jumps : (a : Environment) (pc : ℕ) (t : Own) (expired : Bool) (w x y rd rs1 : ℕ) (imm : ℤ) →
    ins w ≡ Jalr rd rs1 imm → is_trap (execute_in a pc t expired w x y).effect ≡ false →
    Jumped t.sleep (execute_in a pc t expired w x y)
unfolding execute_in run_at
act-jumps a pc t true w x y rd rs1 imm is h = cc
act-jumps a pc t false w x y rd rs1 imm is h = go (a.fetch pc) h
  where
    ran : Execution
    ran =
        unless_trap pc t w (result_of (ins w) pc x y).trap
        (execute_untrapped a pc t w x y (result_of (ins w) pc x y) (ins w))

    jumps : (n : Ins) → Jalr rd rs1 imm ≡ n → is_trap (unless_trap pc t w (result_of n pc x y).trap
        (execute_untrapped a pc t w x y (result_of n pc x y) n)).effect ≡ false →
        Jumped t.sleep (unless_trap pc t w (result_of n pc x y).trap
        (execute_untrapped a pc t w x y (result_of n pc x y) n))
    jumps n e =
        subst (λ n. is_trap (unless_trap pc t w (result_of n pc x y).trap (execute_untrapped a
        pc t w x y (result_of n pc x y) n)).effect ≡ false → Jumped t.sleep (unless_trap pc t w
        (result_of n pc x y).trap (execute_untrapped a pc t w x y (result_of n pc x y) n))) e
        (unless-jumps a pc t w x y rd rs1 imm (result_of (Jalr rd rs1 imm) pc x y).trap)

    go : (b : Bool) → is_trap (if b then ran else trapped pc t 0 1).effect ≡ false →
        Jumped t.sleep (if b then ran else trapped pc t 0 1)
    go true h = jumps (ins w) (sym is) h
    go false h = cc

pub record Returned (c sleep : ℕ) (t : Thread) : Type 0 where
  pub ready : t.ready ≡ c + 3
  pub sleeps : t.own.sleep ≡ sleep

pub issue-returns : (a : Environment) (m : Contents) (c : ℕ) (t : Thread) →
    is_back (m.code t.pc) ≡ true → is_trap (issue a m c t).effect ≡ false →
    Returned c t.own.sleep (issue a m c t).thread
unfolding issue effect_of execute_word
issue-returns a m c t back h =
    let w : ℕ = m.code t.pc in
    let d : Execution = execute_word a w t in
    let y : Jumped t.own.sleep d =
    act-jumps a t.pc t.own (is_due t.own.timer.armed a.now) w (reg_in t.regs (source_1 (ins w)))
    (reg_in t.regs (source_2 (ins w))) 0 1 (pos 0) (ap ins (back-is w back) ∙ ins-back)
    (sym (filled-trap (late_rd (ins d.word)) (value_in m t.regs d) d.effect) ∙ h) in
    record { ready = ap (λ l. c + l) y.lag; sleeps = y.sleeps }
