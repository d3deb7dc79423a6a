-- The stage registers, by the last five turns.
use Rattle.std.proofs.Common.{◌≡◌, ℕ, ◌-◌, refl, ap, sym, ◌∙◌}
use Rattle.std.specs.Prelude.{Option}
use Rattle.rv_decode.specs.Table.{ins}
use Rattle.rv_exec.specs.declared.outcome.Effect.{Effect}
use Rattle.timer_unit.specs.Time.{time, is_due}
use Rattle.core_model.specs.Thread.{Execution, with_late_value, reg_in}
use Rattle.core_model.specs.Issue.{execute_word, issue, effect_of}
use Rattle.core_model.specs.Issue.{late_rd, value_in, source_1, source_2}
use Rattle.core_model.specs.Memory.{code_at}
use Rattle.core_model.specs.World.{Start, World, Took, world, thread_of, environment, contents}
use Rattle.core_model.specs.World.Took.{Idle, Lost, Ran}
use Rattle.core_model.proofs.Turns.{Does, Turned, behind}
use Rattle.pipe_model.specs.declared.stage_registers.Held.TheVariants.{Issue}
use Rattle.pipe_model.specs.Stages.{StageRegisters}
use Rattle.pipe_model.specs.Relation.{turn_at, in_execute, in_decode}
use Rattle.pipe_model.specs.Relation.{decoded_in, executed_in, execution_in}
use Rattle.pipe_model.specs.Contents.{is_expiry, decoded_by, decode_holds, before_late}
use Rattle.pipe_model.specs.Contents.{address_of, unless_trapped, executed_by, execute_holds}
use Rattle.pipe_model.specs.PipelineLaws.{HoldsTurns}
use Rattle.pipe_model.proofs.Told.{ActTold, act-told, filled-expiry, filled-early, filled-trapped}
use Rattle.pipe_model.proofs.Fetching.{holds}

did-told : (s : Start) (n : ℕ) (w : World) (k : ℕ) → ActTold (thread_of w k).regs
    (is_due (thread_of w k).own.timer.armed (time s.period n)) (execution_in s n w k)
unfolding environment execute_word
did-told s n w k = act-told _ _ _ (thread_of w k).regs _ _ _

-- an issue of thread k, by its turn
module _ (s : Start) (n : ℕ) (w after : World) (k pc word : ℕ) (effect : Option Effect)
    (does : Does s n w after k pc word effect) where
  abbrev d : Execution
  d = execution_in s n w k

  abbrev o : Option ℕ
  o = late_rd (ins d.word)

  abbrev v : ℕ
  v = value_in (contents s n w k) (thread_of w k).regs d

  effect-is : effect ≡ with_late_value o v d.effect
  unfolding issue effect_of
  effect-is = does.effect_is

  word-is : word ≡ d.word
  unfolding issue
  word-is = does.word_is

  expiry-is : is_due (thread_of w k).own.timer.armed (time s.period n) ≡ is_expiry effect
  expiry-is =
      sym (did-told s n w k).expiry ∙ sym (filled-expiry o v d.effect)
      ∙ ap is_expiry (sym effect-is)

  early-is : d.effect ≡ before_late o effect
  early-is =
      sym (filled-early o v d.effect (did-told s n w k).early) ∙ ap (before_late o) (sym effect-is)

  address-is : d.address ≡ unless_trapped effect
      (address_of (ins d.word) (reg_in (thread_of w k).regs (source_1 (ins d.word))))
  address-is =
      let address : ℕ =
      address_of (ins d.word) (reg_in (thread_of w k).regs (source_1 (ins d.word))) in
      (did-told s n w k).address ∙ sym (filled-trapped o v address d.effect)
      ∙ ap (λ (e : Option Effect). unless_trapped e address) (sym effect-is)

  decoded-is : decoded_in s n (thread_of w k) ≡ decoded_by s (thread_of w k).regs pc effect
  decoded-is = rw (does.pc_is) (λ j. record {
    pc = (thread_of w k).pc;
    word = code_at s.size s.i_words (thread_of w k).pc;
    expired = expiry-is j;
    a = reg_in (thread_of w k).regs (source_1 (ins (code_at s.size s.i_words (thread_of w k).pc)));
    b = reg_in (thread_of w k).regs (source_2 (ins (code_at s.size s.i_words (thread_of w k).pc)));
  })

  executed-is : executed_in d (thread_of w k) ≡ executed_by (thread_of w k).regs pc word effect
  executed-is = rw (does.pc_is, word-is) (λ j. record {
    pc = (thread_of w k).pc;
    word = d.word;
    a = reg_in (thread_of w k).regs (source_1 (ins d.word));
    b = reg_in (thread_of w k).regs (source_2 (ins d.word));
    address = address-is j;
    effect = early-is j;
  })

in-decode : (s : Start) (n : ℕ) (w after : World) (t : Took) → Turned s n w t after →
    in_decode s n w t ≡ decode_holds s w t
in-decode s n w after Idle t = refl
in-decode s n w after (Lost k) t = refl
in-decode s n w after (Ran k pc word effect) t =
    ap (Issue k) (decoded-is s n w after k pc word effect t)

in-execute : (s : Start) (n : ℕ) (w after : World) (t : Took) → Turned s n w t after →
    in_execute s n w t ≡ execute_holds w t
in-execute s n w after Idle t = refl
in-execute s n w after (Lost k) t = refl
in-execute s n w after (Ran k pc word effect) t =
    ap (Issue k) (executed-is s n w after k pc word effect t)

pub held : HoldsTurns
held s c p u begins refines = record {
  f = holds s c p u begins refines;
  d =
      ap (λ (x : StageRegisters). x.d) refines.stage_registers
      ∙ in-decode s (c - 2) (world s (c - 2)) (world s (c - 1)) (turn_at s c 1) (behind s c 1);
  e =
      ap (λ (x : StageRegisters). x.e) refines.stage_registers
      ∙ in-execute s (c - 3) (world s (c - 3)) (world s (c - 2)) (turn_at s c 2) (behind s c 2);
  m = ap (λ (x : StageRegisters). x.m) refines.stage_registers;
  w = ap (λ (x : StageRegisters). x.w) refines.stage_registers;
}
