-- The contents of the stage registers for the last five turns. They follow from the pc, word and
-- effect of each turn, and the registers of its thread before it.
use Rattle.std.specs.Prelude.{◌≡◌, ℕ, ◌-◌, ◌==◌, Bool, false, List, Option, Some}
use Rattle.rv_decode.specs.Table.{ins}
use Rattle.rv_decode.specs.declared.instruction.Ins.{Ins}
use Rattle.rv_decode.specs.declared.instruction.Ins.TheVariants as instruction
use Rattle.rv_exec.specs.declared.outcome.Effect.{Effect}
use Rattle.rv_exec.specs.declared.outcome.Effect.TheVariants.{Nothing, Reg, Trap}
use Rattle.rv_exec.specs.Result.{offset}
use Rattle.rv_exec.specs.TrapCauses.{cause_expiry}
use Rattle.core_model.specs.Thread.{reg_in}
use Rattle.core_model.specs.Issue.{late_rd, source_1, source_2}
use Rattle.core_model.specs.Memory.{code_at}
use Rattle.core_model.specs.World.{Start, World, Took, world, thread_of}
use Rattle.core_model.specs.World.Took.{Idle, Lost, Ran}
use Rattle.core_model.specs.Delays.{cycles_to_e, cycles_to_m}
use Rattle.pipe_model.specs.declared.stage_registers.Held.{Held}
use Rattle.pipe_model.specs.declared.stage_registers.Held.TheVariants.{Bubble, Flushed, Issue}
use Rattle.pipe_model.specs.declared.stage_registers.Decoded.{Decoded}
use Rattle.pipe_model.specs.declared.stage_registers.Executed.{Executed}
use Rattle.pipe_model.specs.Stages.{StageRegisters}
use Rattle.pipe_model.specs.Relation.{turn_at, in_memory, in_write}
use Rattle.pipe_model.specs.StageView.{FetchHolds}

-- the turn was taken by an expiry
abbrev pub is_expiry : Option Effect → Bool
is_expiry (Some (Trap cause target)) = cause == cause_expiry
is_expiry _ = false

-- d: the word at the turn's pc and the values of its sources, and whether it expired
abbrev pub decoded_by : Start → List ℕ → ℕ → Option Effect → Decoded
decoded_by s regs pc effect =
    let word = code_at s.size s.i_words pc in
    record {
      pc = pc;
      word = word;
      expired = is_expiry effect;
      a = reg_in regs (source_1 (ins word));
      b = reg_in regs (source_2 (ins word));
    }

abbrev pub decode_holds : Start → World → Took → Held Decoded
decode_holds s w Idle = Bubble
decode_holds s w (Lost k) = Flushed k
decode_holds s w (Ran k pc word effect) = Issue k (decoded_by s (thread_of w k).regs pc effect)

-- the effect before M: Nothing for a load, multiplication or division that doesn't trap
abbrev pub before_late : Option ℕ → Option Effect → Option Effect
before_late (Some rd) (Some (Reg x value)) = Some Nothing
before_late _ effect = effect

-- the address of a load or store, from the value of its base register; 0 for other instructions
abbrev pub address_of : Ins → ℕ → ℕ
address_of (instruction.Load op rd rs1 imm) a = offset a imm
address_of (instruction.Store op rs1 rs2 imm) a = offset a imm
address_of _ a = 0

-- that address, but 0 if the turn traps
abbrev pub unless_trapped : Option Effect → ℕ → ℕ
unless_trapped (Some (Trap cause target)) address = 0
unless_trapped effect address = address

-- e: the turn's pc and word, the values of the word's sources, and the effect without a late value
abbrev pub executed_by : List ℕ → ℕ → ℕ → Option Effect → Executed
executed_by regs pc word effect =
    let a = reg_in regs (source_1 (ins word)) in
    record {
      pc = pc;
      word = word;
      a = a;
      b = reg_in regs (source_2 (ins word));
      address = unless_trapped effect (address_of (ins word) a);
      effect = before_late (late_rd (ins word)) effect;
    }

abbrev pub execute_holds : World → Took → Held Executed
execute_holds w Idle = Bubble
execute_holds w (Lost k) = Flushed k
execute_holds w (Ran k pc word effect) = Issue k (executed_by (thread_of w k).regs pc word effect)

-- the stage registers before cycle c
pub record Contents (s : Start) (c : ℕ) (p : StageRegisters) : Type 0 where
  pub f : FetchHolds s p.f (turn_at s c 0)
  pub d : p.d ≡ decode_holds s (world s (c - cycles_to_e)) (turn_at s c 1)
  pub e : p.e ≡ execute_holds (world s (c - cycles_to_m)) (turn_at s c 2)
  pub m : p.m ≡ in_memory (turn_at s c 3)
  pub w : p.w ≡ in_write (turn_at s c 4)
