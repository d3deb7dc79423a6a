-- The stage registers show the turns.
use Rattle.std.proofs.Common.{◌≡◌, ℕ, ◌-◌, Bool, true, false, refl, sym, ◌∙◌, subst₂}
use Rattle.std.specs.Prelude.{if◌then◌else◌, nat_le}
use Rattle.rv_decode.specs.Table.{ins}
use Rattle.slot_scheduler.specs.declared.picking.Pick.{Pick}
use Rattle.slot_scheduler.specs.declared.picking.Pick.TheVariants as chosen
use Rattle.core_model.specs.declared.own.Own.{Own}
use Rattle.core_model.specs.Thread.{Environment}
use Rattle.core_model.specs.Traps.{trapped}
use Rattle.core_model.specs.Issue.{execute_in, execute_word, run_at, issue}
use Rattle.core_model.specs.World.{Start, World, Took, thread_of, world, environment}
use Rattle.core_model.specs.World.Took.{Idle, Lost, Ran}
use Rattle.core_model.proofs.Turns.{Turned, behind}
use Rattle.core_model.proofs.Pace.{run-word}
use Rattle.pipe_model.specs.declared.stage_registers.Held.TheVariants.{Flushed, Issue}
use Rattle.pipe_model.specs.Stages.{StageRegisters, State}
use Rattle.pipe_model.specs.Relation.{turn_at, pick_in, in_write, in_execute, in_decode}
use Rattle.pipe_model.specs.Relation.{in_fetch, fetched_in, decoded_in, execution_in}
use Rattle.pipe_model.specs.StageView.{fetch_shown, decode_shown}
use Rattle.pipe_model.specs.StageView.{execute_shown, decoded_word, Shown}
use Rattle.pipe_model.specs.PipelineLaws.{ShowsTurns}
use Rattle.pipe_model.proofs.Keeping.{write-is}

fetched-shown : (s : Start) (c : ℕ) (w : World) (turn : Took) (o : Pick) →
    fetch_shown (in_fetch s c w turn o) ≡ o
unfolding fetch_shown
fetched-shown s c w turn chosen.Bubble = refl
fetched-shown s c w turn (chosen.Issue k) = go (nat_le c (thread_of w k).ready)
  where
    go : (b : Bool) →
        fetch_shown (if b then Flushed k else Issue k (fetched_in s w turn k)) ≡ chosen.Issue k
    go true = refl
    go false = refl

-- the word of an execution
act-shown : (a : Environment) (pc : ℕ) (t : Own) (expired : Bool) (w x y : ℕ) →
    (execute_in a pc t expired w x y).word ≡ (if expired then 0 else if a.fetch pc then w else 0)
unfolding execute_in
act-shown a pc t true w x y = refl
act-shown a pc t false w x y = go (a.fetch pc)
  where
    go : (b : Bool) →
        (if b then run_at a pc t w x y (ins w) else trapped pc t 0 1).word ≡ (if b then w else 0)
    go true = run-word a pc t w x y (ins w)
    go false = refl

did-shown : (s : Start) (n : ℕ) (w : World) (k : ℕ) → (execution_in s n w k).word
    ≡ decoded_word s.size s.confined w.registers.iregions k (decoded_in s n (thread_of w k))
unfolding environment execute_word
did-shown s n w k = act-shown _ (thread_of w k).pc _ _ _ _ _

decoded-shown : (s : Start) (n : ℕ) (w after : World) (t : Took) → Turned s n w t after →
    decode_shown s.size s.confined w.registers.iregions (in_decode s n w t) ≡ in_write t
unfolding decode_shown issue
decoded-shown s n w after Idle t = refl
decoded-shown s n w after (Lost k) t = refl
decoded-shown s n w after (Ran k pc word effect) t =
    let word-is : decoded_word s.size s.confined w.registers.iregions k
    (decoded_in s n (thread_of w k)) ≡ word = sym (did-shown s n w k) ∙ sym t.word_is in
    λ j. Issue k (record { pc = sym t.pc_is j; word = word-is j })

executed-shown : (s : Start) (n : ℕ) (w after : World) (t : Took) → Turned s n w t after →
    execute_shown (in_execute s n w t) ≡ in_write t
unfolding execute_shown issue
executed-shown s n w after Idle t = refl
executed-shown s n w after (Lost k) t = refl
executed-shown s n w after (Ran k pc word effect) t =
    λ j. Issue k (record { pc = sym t.pc_is j; word = sym t.word_is j })

pub shows : ShowsTurns
shows s c p u h =
    let P : StageRegisters → State → Type 0 = Shown s c in
    subst₂ P (sym h.stage_registers) (sym h.units) (record {
      f = fetched-shown s c (world s (c - 2)) (turn_at s c 1) (pick_in (turn_at s c 0));
      d =
          decoded-shown s (c - 2) (world s (c - 2)) (world s (c - 1)) (turn_at s c 1)
          (behind s c 1);
      e =
          executed-shown s (c - 3) (world s (c - 3)) (world s (c - 2)) (turn_at s c 2)
          (behind s c 2);
      m = write-is (turn_at s c 3);
      w = refl;
    })
