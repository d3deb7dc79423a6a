-- The stages W, M and E against the world.
use Rattle.std.proofs.Common.{◌≡◌, ℕ, ◌<◌, ◌⊎◌, inl, inr, Bool, true, false, List, []}
use Rattle.std.proofs.Common.{get_or, set, length, map, None, refl, ap, ap₂, sym, ◌∙◌, arith}
use Rattle.std.specs.Prelude.{if◌then◌else◌, Option, ◌==◌}
use Rattle.std.proofs.Math.ListN.{get_or-map}
use Rattle.std.proofs.lemmas.List as bounded
use Rattle.std.proofs.lemmas.List.{map-set}
use Rattle.std.proofs.lemmas.Bool.Decides.{nat_tests}
use Rattle.rv_decode.specs.Table.{ins, rows, lui_rows, auipc_rows, jal_rows, jalr_rows}
use Rattle.rv_decode.specs.Table.{branch_rows, load_rows, store_rows, imm_rows}
use Rattle.rv_decode.specs.Table.{op_rows, fence_rows, system_rows, time_rows}
use Rattle.rv_decode.specs.declared.instruction.Ins.TheVariants.{Illegal}
use Rattle.rv_exec.specs.declared.outcome.Effect.{Effect}
use Rattle.timer_unit.specs.declared.row.Timer.{Timer}
use Rattle.timer_unit.specs.Time.{time, is_due, no_timer}
use Rattle.fp_ports.specs.PluggedPorts.{Row, row_at, word_seen}
use Rattle.core_model.specs.declared.own.Trapping.{Trapping}
use Rattle.core_model.specs.Thread.{Thread, Execution, fresh, regs_after, with_late_value, reg_in}
use Rattle.core_model.specs.Issue.{execute_word, issue, effect_of, late_rd}
use Rattle.core_model.specs.Issue.{late_value, value_in, source_1, source_2}
use Rattle.core_model.specs.Memory.{code_at, data_at}
use Rattle.core_model.specs.World.{Start, World, Took, thread_of, issue_of, port_word}
use Rattle.core_model.specs.World.{registers_after, environment, environment_at, contents}
use Rattle.core_model.specs.World.Took.{Idle, Lost, Ran}
use Rattle.core_model.proofs.Turns.{Same, Does, Turned}
use Rattle.core_model.proofs.Pace.{filled-registers, act-word}
use Rattle.pipe_model.specs.declared.stage_registers.Held.TheVariants.{Bubble, Flushed, Issue}
use Rattle.pipe_model.specs.declared.stage_registers.Redirect.{Redirect}
use Rattle.pipe_model.specs.Stages.{bank_after, memory_stage, words_stored}
use Rattle.pipe_model.specs.Stages.{After, executes, execute_stage, execute}
use Rattle.pipe_model.specs.Stages.{executed_of, control_after, redirect_of, own_in}
use Rattle.pipe_model.specs.Relation.{in_memory, in_execute, in_decode, decoded_in}
use Rattle.pipe_model.specs.Relation.{executed_in, execution_in, bank_in, control_in}

-- the registers of a thread of the world
pub row-is : (w : World) (k : ℕ) → length w.threads ≡ 8 → k < 8 →
    get_or (bank_in w) k [] ≡ (thread_of w k).regs
row-is w k l h =
    let f : Thread → List ℕ = λ t. t.regs in bounded.get_or-map f w.threads k (fresh 0) [] (rw l h)

-- W: the bank after the turn in the register before W
pub writes : (s : Start) (n : ℕ) (w after : World) (t : Took) → length w.threads ≡ 8 →
    Turned s n w t after → bank_after (in_memory t) (bank_in w) ≡ bank_in after
unfolding bank_after issue
writes s n w after Idle l t = ap (map (λ x. x.regs)) (sym t.threads)
writes s n w after (Lost k) l t = ap (map (λ x. x.regs)) (sym t.same.threads)
writes s n w after (Ran k pc word effect) l t =
    let f : Thread → List ℕ = λ x. x.regs in
    ap₂ (λ (e : Option Effect) (r : List ℕ). set (map f w.threads) k (regs_after e r)) t.effect_is
    (row-is w k l t.below) ∙ sym (map-set f w.threads k (issue_of s n w k).thread)
    ∙ ap (map f) (sym t.threads)

-- M: the late value is the one that the world's issue finds
pub stored-is : (s : Start) (n : ℕ) (w after : World) (ports : List (Option Row)) (t : Took) →
    Turned s n w t after → ((k : ℕ) → k < 8 → word_seen (row_at ports k) n ≡ port_word s n k) →
    memory_stage s.size s.i_words w.d_words ports n (in_execute s n w t) ≡ in_memory t
unfolding memory_stage issue effect_of
stored-is s n w after ports Idle t h = refl
stored-is s n w after ports (Lost k) t h = refl
stored-is s n w after ports (Ran k pc word effect) t h =
    λ j. Issue k (record { pc = sym t.pc_is j; word = sym t.word_is j; effect = e j })
  where
    d : Execution
    d = execution_in s n w k

    e : with_late_value (late_rd (ins d.word)) (late_value (ins d.word)
        (data_at s.size s.i_words w.d_words (word_seen (row_at ports k) n) d.address) d.address
        (reg_in (thread_of w k).regs (source_1 (ins d.word)))
        (reg_in (thread_of w k).regs (source_2 (ins d.word)))) d.effect ≡ effect
    e = rw (h k t.below) (sym t.effect_is)

pub stores-is : (s : Start) (n : ℕ) (w after : World) (t : Took) → Turned s n w t after →
    words_stored s.size (in_memory t) w.d_words ≡ after.d_words
unfolding words_stored
stores-is s n w after Idle t = sym t.words
stores-is s n w after (Lost k) t = sym t.same.words
stores-is s n w after (Ran k pc word effect) t = sym t.words

-- E: the thread's own state
pub timer-is : (w : World) (k : ℕ) →
    get_or (map (λ x. x.own.timer) w.threads) k no_timer ≡ (thread_of w k).own.timer
timer-is w k = let f : Thread → Timer = λ x. x.own.timer in get_or-map f w.threads k (fresh 0)

own-is : (w : World) (k : ℕ) → own_in (control_in w) k ≡ (thread_of w k).own
own-is w k =
    let trap : Thread → Trapping = λ x. x.own.trap in
    let sleep : Thread → ℕ = λ x. x.own.sleep in
    λ j. record {
      timer = timer-is w k j;
      trap = get_or-map trap w.threads k (fresh 0) j;
      sleep = get_or-map sleep w.threads k (fresh 0) j;
    }

execute-is : (s : Start) (n : ℕ) (w : World) (k : ℕ) →
    execute s.size s.confined s.permit (time s.period n) (control_in w) k
    (decoded_in s n (thread_of w k)) ≡ execution_in s n w k
unfolding environment execute_word
execute-is s n w k = rw (own-is w k) refl

ins-zero : ins 0 ≡ Illegal 0
unfolding ins rows lui_rows auipc_rows jal_rows jalr_rows branch_rows load_rows store_rows imm_rows
    op_rows fence_rows system_rows time_rows
ins-zero = refl

-- the operands, by the word of the turn
shown-operand : (w v : ℕ) (x : ℕ) (regs : List ℕ) (source : ℕ → ℕ) →
    source 0 ≡ 0 → x ≡ reg_in regs (source w) → (v ≡ w) ⊎ (v ≡ 0) →
    (if v == 0 then 0 else x) ≡ reg_in regs (source v)
shown-operand w v x regs source z e h = go (v == 0) refl h
  where
    none : v ≡ 0 → 0 ≡ reg_in regs (source v)
    none f = rw (f, z) refl

    go : (b : Bool) → (v == 0) ≡ b → (v ≡ w) ⊎ (v ≡ 0) →
        (if b then 0 else x) ≡ reg_in regs (source v)
    go true f k = none (grind (arith, nat_tests))
    go false f (inl k) = rw k e
    go false f (inr k) = absurd (grind (arith, nat_tests))

executed-is : (s : Start) (n : ℕ) (w : World) (k : ℕ) →
    executed_of (decoded_in s n (thread_of w k)) (execution_in s n w k)
    ≡ executed_in (execution_in s n w k) (thread_of w k)
unfolding environment execute_word
executed-is s n w k =
    λ j.
    record { pc = t.pc; word = d.word; a = a j; b = b j; address = d.address; effect = d.effect }
  where
    t : Thread
    t = thread_of w k

    d : Execution
    d = execution_in s n w k

    word : ℕ
    word = code_at s.size s.i_words t.pc

    either : (d.word ≡ word) ⊎ (d.word ≡ 0)
    either =
        act-word (environment_at s n w k) t.pc t.own (is_due t.own.timer.armed (time s.period n))
        word (reg_in t.regs (source_1 (ins word))) (reg_in t.regs (source_2 (ins word)))

    a : (if d.word == 0 then 0 else reg_in t.regs (source_1 (ins word)))
        ≡ reg_in t.regs (source_1 (ins d.word))
    a =
        shown-operand word d.word (reg_in t.regs (source_1 (ins word))) t.regs
        (λ v. source_1 (ins v)) (ap source_1 ins-zero) refl either

    b : (if d.word == 0 then 0 else reg_in t.regs (source_2 (ins word)))
        ≡ reg_in t.regs (source_2 (ins d.word))
    b =
        shown-operand word d.word (reg_in t.regs (source_2 (ins word))) t.regs
        (λ v. source_2 (ins v)) (ap source_2 ins-zero) refl either

-- the redirect and the state after the execute stage, by the turn
abbrev pub redirect_in : Start → ℕ → World → Took → Option Redirect
redirect_in s n w Idle = None
redirect_in s n w (Lost k) = None
redirect_in s n w (Ran k pc word effect) = redirect_of k (execution_in s n w k)

abbrev pub after_in : Start → ℕ → World → World → Took → After
after_in s n w after t =
    record { e = in_execute s n w t; control = control_in after; redirect = redirect_in s n w t }

-- worlds that differ only in the list of turns have the same control
still : (w after : World) → Same w after → control_in w ≡ control_in after
still w after h = λ j. record {
  registers = sym h.registers j;
  timers = map (λ x. x.own.timer) (sym h.threads j);
  traps = map (λ x. x.own.trap) (sym h.threads j);
  sleeps = map (λ x. x.own.sleep) (sym h.threads j);
}

controlled-is : (s : Start) (n : ℕ) (w after : World) (k pc word : ℕ) (effect : Option Effect) →
    Does s n w after k pc word effect →
    control_after k (execution_in s n w k) (control_in w) ≡ control_in after
unfolding issue effect_of
controlled-is s n w after k pc word effect t =
    let x : Execution = execution_in s n w k in
    let done : Thread = (issue_of s n w k).thread in
    let timer : Thread → Timer = λ x. x.own.timer in
    let trap : Thread → Trapping = λ x. x.own.trap in
    let sleep : Thread → ℕ = λ x. x.own.sleep in
    let registers : registers_after x.effect w.registers ≡ after.registers =
    sym (filled-registers (late_rd (ins x.word))
    (value_in (contents s n w k) (thread_of w k).regs x) x.effect w.registers)
    ∙ ap (λ (y : Option Effect). registers_after y w.registers) (sym t.effect_is)
    ∙ sym t.registers in
    let timers : set (map timer w.threads) k x.own.timer ≡ map timer after.threads =
    sym (map-set timer w.threads k done) ∙ ap (map timer) (sym t.threads) in
    let traps : set (map trap w.threads) k x.own.trap ≡ map trap after.threads =
    sym (map-set trap w.threads k done) ∙ ap (map trap) (sym t.threads) in
    let sleeps : set (map sleep w.threads) k x.own.sleep ≡ map sleep after.threads =
    sym (map-set sleep w.threads k done) ∙ ap (map sleep) (sym t.threads) in
    λ j. record { registers = registers j; timers = timers j; traps = traps j; sleeps = sleeps j }

-- E
pub execute_stage-is : (s : Start) (n : ℕ) (w after : World) (t : Took) → Turned s n w t after →
    execute_stage s.size s.confined s.permit (time s.period n) (control_in w) (in_decode s n w t)
    ≡ after_in s n w after t
unfolding execute_stage
execute_stage-is s n w after Idle t =
    λ j. record { e = Bubble; control = still w after t j; redirect = None }
execute_stage-is s n w after (Lost k) t =
    λ j. record { e = Flushed k; control = still w after t.same j; redirect = None }
execute_stage-is s n w after (Ran k pc word effect) t =
    let x : Execution = execution_in s n w k in
    ap (executes k (decoded_in s n (thread_of w k)) (control_in w)) (execute-is s n w k)
    ∙ (λ j. record {
      e = Issue k (executed-is s n w k j);
      control = controlled-is s n w after k pc word effect t j;
      redirect = redirect_of k x;
    })
