-- The register after F, by the turn of c - 1.
use Rattle.std.proofs.Common.{◌≡◌, ℕ, ◌-◌, Bool, true, false, List, ap, sym, ◌∙◌, subst}
use Rattle.std.specs.Prelude.{Option, if◌then◌else◌}
use Rattle.rv_exec.specs.declared.outcome.Effect.{Effect}
use Rattle.timer_unit.specs.declared.row.Timer.{Timer}
use Rattle.timer_unit.specs.Time.{time, is_due, timer_of}
use Rattle.rv_decode.specs.Table.{ins}
use Rattle.core_model.specs.Issue.{source_1, source_2}
use Rattle.core_model.specs.Memory.{code_at}
use Rattle.core_model.specs.World.{Start, World, Took, world, thread_of}
use Rattle.core_model.specs.World.Took.{Idle, Lost, Ran}
use Rattle.core_model.proofs.Turns.{Turned, Does, behind, real}
use Rattle.pipe_model.specs.declared.stage_registers.Held.{Held}
use Rattle.pipe_model.specs.declared.stage_registers.Held.TheVariants.{Bubble, Flushed, Issue}
use Rattle.pipe_model.specs.declared.stage_registers.Decoded.{Decoded}
use Rattle.pipe_model.specs.declared.stage_registers.Executed.{Executed}
use Rattle.pipe_model.specs.declared.stage_registers.Fetched.{Fetched}
use Rattle.pipe_model.specs.declared.stage_registers.Stored.{Stored}
use Rattle.pipe_model.specs.declared.stage_registers.Redirect.{Redirect}
use Rattle.pipe_model.specs.Forwarding.{operand}
use Rattle.pipe_model.specs.Stages.{StageRegisters, State, decode_stage, flushes_d}
use Rattle.pipe_model.specs.Relation.{turn_at, in_memory, in_execute, in_decode, in_fetch}
use Rattle.pipe_model.specs.Relation.{decoded_in, pick_in, bank_in, control_in, Begins}
use Rattle.pipe_model.specs.Relation.{PipelineRefines}
use Rattle.pipe_model.specs.StageView.{FetchHolds}
use Rattle.pipe_model.proofs.Moved.{eight}
use Rattle.pipe_model.proofs.Late.{redirect_in}
use Rattle.pipe_model.proofs.Young.{decode-is}
use Rattle.pipe_model.proofs.Keeping.{fates}

-- the pc and the word of a turn in d
abbrev thin : Held Decoded → Held Fetched
thin Bubble = Bubble
thin (Flushed k) = Flushed k
thin (Issue k d) = Issue k (record { pc = d.pc; word = d.word })

-- a turn that continues in D was in the register after F
from-decoded : (bank : List (List ℕ)) (m : Held Stored) (e : Held Executed) (timers : List Timer)
    (r : Option Redirect) (now : ℕ) (f : Held Fetched) (k : ℕ) (d : Decoded) →
    decode_stage bank m e timers r now f ≡ Issue k d → f ≡ thin (Issue k d)
unfolding decode_stage
from-decoded bank m e timers r now Bubble k d h = cc
from-decoded bank m e timers r now (Flushed j) k d h = cc
from-decoded bank m e timers r now (Issue j x) k d h = go (flushes_d j r) h
  where
    go : (b : Bool) → (if b then Flushed j else Issue j (record {
      pc = x.pc;
      word = x.word;
      expired = is_due (timer_of timers j).armed now;
      a = operand bank m e j (source_1 (ins x.word));
      b = operand bank m e j (source_2 (ins x.word));
    })) ≡ Issue k d → Issue j x ≡ thin (Issue k d)
    go true g = cc
    go false g = ap thin g

from-flushed : (bank : List (List ℕ)) (m : Held Stored) (e : Held Executed) (timers : List Timer)
    (r : Option Redirect) (now : ℕ) (k : ℕ) (t : Took) (s : Start) (n : ℕ) (w : World) →
    decode_stage bank m e timers r now (Flushed k) ≡ in_decode s n w t → t ≡ Lost k
unfolding decode_stage
from-flushed bank m e timers r now k Idle s n w h = cc
from-flushed bank m e timers r now k (Lost j) s n w h =
    let P : Held Decoded → Took = who in ap P (sym h)
  where
    who : Held Decoded → Took
    who Bubble = Idle
    who (Flushed i) = Lost i
    who (Issue i d) = Idle
from-flushed bank m e timers r now k (Ran j pc word effect) s n w h = cc

pc-of : (s : Start) (n : ℕ) (w after : World) (t : Took) (k pc word : ℕ) (effect : Option Effect) →
    Turned s n w t after → t ≡ Ran k pc word effect → pc ≡ (thread_of w k).pc
pc-of s n w after t k pc word effect turned e =
    let does : Does s n w after k pc word effect =
    subst (λ (x : Took). Turned s n w x after) e turned in
    does.pc_is

pub holds : (s : Start) (c : ℕ) (p : StageRegisters) (u : State) → Begins s →
    PipelineRefines s c p u →
    FetchHolds s p.f (turn_at s c 0)
holds s c p u begins refines = record {
  flushed =
      λ k h. from-flushed _ _ _ _ _ _ k (turn_at s c 0) s (c - 1) (world s (c - 1))
      (subst Decodes (sym f-is ∙ h) decoded);
  issue = λ k pc word effect e. issue k pc word effect e;
}
  where
    f : Held Fetched
    f = in_fetch s c (world s (c - 2)) (turn_at s c 1) (pick_in (turn_at s c 0))

    f-is : p.f ≡ f
    f-is = ap (λ (x : StageRegisters). x.f) refines.stage_registers

    Decodes : Held Fetched → Type 0
    Decodes x =
        decode_stage (bank_in (world s (c - 3))) (in_memory (turn_at s c 2)) (in_execute s
        (c - 2) (world s (c - 2)) (turn_at s c 1)) (control_in (world s (c - 1))).timers
        (redirect_in s (c - 2) (world s (c - 2)) (turn_at s c 1)) (time s.period (c - 1)) x
        ≡ in_decode s (c - 1) (world s (c - 1)) (turn_at s c 0)

    decoded : Decodes f
    decoded =
        decode-is s c (world s (c - 3)) (world s (c - 2)) (world s (c - 1))
        (world s (c - 0)) (turn_at s c 2) (turn_at s c 1) (turn_at s c 0) p.next
        (eight s (c - 3) begins) (fates s c begins p.next refines.fronts.count) (behind s c 0)
        (real s c 0) (turn_at s c 0) (behind s c 0) (real s c 0)

    issue : (k pc word : ℕ) (effect : Option Effect) → turn_at s c 0 ≡ Ran k pc word effect →
        p.f ≡ Issue k (record { pc = pc; word = code_at s.size s.i_words pc })
    issue k pc word effect e =
        let there : in_decode s (c - 1) (world s (c - 1)) (turn_at s c 0)
        ≡ Issue k (decoded_in s (c - 1) (thread_of (world s (c - 1)) k)) =
        ap (in_decode s (c - 1) (world s (c - 1))) e in
        let same : pc ≡ (thread_of (world s (c - 1)) k).pc = pc-of s (c - 1) (world s (c - 1))
        (world s (c - 0)) (turn_at s c 0) k pc word effect (behind s c 0) e in
        f-is ∙ from-decoded _ _ _ _ _ _ f k
        (decoded_in s (c - 1) (thread_of (world s (c - 1)) k)) (decoded ∙ there)
        ∙ ap (λ (x : ℕ). Issue k (record { pc = x; word = code_at s.size s.i_words x })) (sym same)
