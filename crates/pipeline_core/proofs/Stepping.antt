-- The stages one by one are the step.
use Rattle.std.proofs.Common.{◌≡◌, ℕ, ◌-◌, List, refl}
use Rattle.std.specs.Prelude.{Option, None}
use Rattle.timer_unit.specs.Time.{time}
use Rattle.slot_scheduler.specs.declared.picking.Pick.{Pick}
use Rattle.slot_scheduler.specs.Picking.{pick}
use Rattle.core_model.specs.World.{sched_by}
use Rattle.pipe_model.specs.declared.stage_registers.Held.{Held}
use Rattle.pipe_model.specs.declared.stage_registers.Fetched.{Fetched}
use Rattle.pipe_model.specs.declared.stage_registers.Decoded.{Decoded}
use Rattle.pipe_model.specs.declared.stage_registers.Executed.{Executed}
use Rattle.pipe_model.specs.declared.stage_registers.Stored.{Stored}
use Rattle.pipe_model.specs.declared.stage_registers.Written.{Written}
use Rattle.pipe_model.specs.declared.stage_registers.Redirect.{Redirect}
use Rattle.pipe_model.specs.Stages.{StageRegisters, State, Ticked, After, bank_after}
use Rattle.pipe_model.specs.Stages.{writeback_stage, memory_stage, words_stored, ports_stored}
use Rattle.pipe_model.specs.Stages.{execute_stage, next_after_redirect, fetch_stage}
use Rattle.pipe_model.specs.Stages.{next_after_fetch, decode_stage, retired_event, step}

-- without a redirect the next pcs stay
pub straight : (next : List ℕ) → next ≡ next_after_redirect None next
unfolding next_after_redirect
straight next = refl

-- the state after W and M, and the state after E
abbrev pub older : StageRegisters → State → Held Stored → State
older p u m = record u {
  bank = bank_after p.m u.bank;
  d_words = words_stored u.size m u.d_words;
  ports = ports_stored m u.ports;
}

-- the result of E after W and M
abbrev pub executed_after : State → ℕ → Held Decoded → After
executed_after u c d = execute_stage u.size u.confined u.permit (time u.period (c - 2)) u.control d

pub steps : (p : StageRegisters) (u behind left : State) (c : ℕ) (w : Held Written)
    (m : Held Stored) (e : Held Executed) (d : Held Decoded) (f : Held Fetched) (next : List ℕ)
    (now last : ℕ) (chosen : Pick) (r : Option Redirect) →
    w ≡ writeback_stage p.m →
    m ≡ memory_stage u.size u.i_words u.d_words u.ports (c - 3) p.e →
    behind ≡ older p u m →
    now ≡ time behind.period c →
    chosen
    ≡ (pick (sched_by behind.control.registers behind.control.sleeps) c now behind.last).pick →
    last ≡ (pick (sched_by behind.control.registers behind.control.sleeps) c now behind.last).last →
    e ≡ (executed_after behind c p.d).e →
    r ≡ (executed_after behind c p.d).redirect →
    left ≡ record behind { control = (executed_after behind c p.d).control; last = last } →
    f ≡ fetch_stage left.size left.i_words r (next_after_redirect r p.next) chosen →
    next ≡ next_after_fetch r chosen (next_after_redirect r p.next) →
    d ≡ decode_stage left.bank m e left.control.timers r (time left.period (c - 1)) p.f →
    let t : Ticked = record {
      stage_registers = record { next = next; f = f; d = d; e = e; m = m; w = w };
      state = left;
      event = retired_event (c - 4) p.m;
    } in
    t ≡ step p u c
unfolding step
steps p u behind left c w m e d f next now last chosen r of_w of_m of_behind
    of_now of_chosen of_last of_e of_r of_left of_f of_next of_d =
    rw (of_d, of_f, of_next, of_left, of_chosen, of_last, of_now, of_e, of_r, of_behind, of_w, of_m)
    refl
