-- The view that the stage registers give of their turns: thread, pc and word.
use Rattle.std.specs.Prelude.{◌≡◌, ℕ, Bool, true, if◌then◌else◌, List, slice_index_or, Option}
use Rattle.rv_exec.specs.declared.outcome.Effect.{Effect}
use Rattle.slot_scheduler.specs.declared.picking.Pick.{Pick}
use Rattle.slot_scheduler.specs.declared.picking.Pick.TheVariants as chosen
use Rattle.region_guard.specs.Regions.{may_fetch}
use Rattle.core_model.specs.Memory.{code_at}
use Rattle.core_model.specs.World.{Start, Took}
use Rattle.core_model.specs.World.Took.{Lost, Ran}
use Rattle.pipe_model.specs.declared.stage_registers.Held.{Held}
use Rattle.pipe_model.specs.declared.stage_registers.Held.TheVariants.{Bubble, Flushed, Issue}
use Rattle.pipe_model.specs.declared.stage_registers.Fetched.{Fetched}
use Rattle.pipe_model.specs.declared.stage_registers.Decoded.{Decoded}
use Rattle.pipe_model.specs.declared.stage_registers.Executed.{Executed}
use Rattle.pipe_model.specs.declared.stage_registers.Written.{Written}
use Rattle.pipe_model.specs.Stages.{StageRegisters, State, writeback_stage}
use Rattle.pipe_model.specs.Relation.{turn_at, pick_in, in_write}

-- f: the thread that the cycle picked. It isn't known yet whether the turn will be flushed
unfoldable pub fetch_shown : Held Fetched → Pick
fetch_shown Bubble = chosen.Bubble
fetch_shown (Flushed k) = chosen.Issue k
fetch_shown (Issue k x) = chosen.Issue k

-- d: the word is 0 if an expiry or a refused fetch takes the turn
abbrev pub decoded_word : ℕ → List Bool → ℕ → ℕ → Decoded → ℕ
decoded_word size confined iregions k x =
    if x.expired then 0
    else if may_fetch k size (slice_index_or confined k true) iregions x.pc then x.word
    else 0

unfoldable pub decode_shown : ℕ → List Bool → ℕ → Held Decoded → Held Written
decode_shown size confined iregions Bubble = Bubble
decode_shown size confined iregions (Flushed k) = Flushed k
decode_shown size confined iregions (Issue k x) =
    Issue k (record { pc = x.pc; word = decoded_word size confined iregions k x })

-- e
unfoldable pub execute_shown : Held Executed → Held Written
execute_shown Bubble = Bubble
execute_shown (Flushed k) = Flushed k
execute_shown (Issue k x) = Issue k (record { pc = x.pc; word = x.word })

-- f, before it is known whether the turn will be flushed. It is Flushed only for a lost turn. For
-- an issue it holds the turn's pc and the word there
pub record FetchHolds (s : Start) (f : Held Fetched) (turn : Took) : Type 0 where
  pub flushed : (k : ℕ) → f ≡ Flushed k → turn ≡ Lost k
  pub issue : (k pc word : ℕ) (effect : Option Effect) → turn ≡ Ran k pc word effect →
      f ≡ Issue k (record { pc = pc; word = code_at s.size s.i_words pc })

-- the stage registers show the turns of the last five cycles
pub record Shown (s : Start) (c : ℕ) (p : StageRegisters) (u : State) : Type 0 where
  pub f : fetch_shown p.f ≡ pick_in (turn_at s c 0)
  pub d : decode_shown u.size u.confined u.control.registers.iregions p.d ≡ in_write (turn_at s c 1)
  pub e : execute_shown p.e ≡ in_write (turn_at s c 2)
  pub m : writeback_stage p.m ≡ in_write (turn_at s c 3)
  pub w : p.w ≡ in_write (turn_at s c 4)
