-- Forwarding: D reads a register's value that is still in E or M.
use Rattle.std.specs.Prelude.{ℕ, ◌==◌, if◌then◌else◌, List, [], slice_index_or, Option, Some}
use Rattle.rv_exec.specs.declared.outcome.Effect.{Effect}
use Rattle.rv_exec.specs.declared.outcome.Effect.TheVariants.{Reg}
use Rattle.core_model.specs.Thread.{reg_in, reg_set}
use Rattle.pipe_model.specs.declared.stage_registers.Held.{Held}
use Rattle.pipe_model.specs.declared.stage_registers.Held.TheVariants.{Bubble, Flushed, Issue}
use Rattle.pipe_model.specs.declared.stage_registers.Executed.{Executed}
use Rattle.pipe_model.specs.declared.stage_registers.Stored.{Stored}

-- the registers of a thread with a value that isn't in its register yet
abbrev pub forward : Option Effect → List ℕ → List ℕ
forward (Some (Reg rd value)) regs = reg_set regs rd value
forward _ regs = regs

abbrev pub from_e : ℕ → Held Executed → List ℕ → List ℕ
from_e k Bubble regs = regs
from_e k (Flushed j) regs = regs
from_e k (Issue j x) regs = if j == k then forward x.effect regs else regs

abbrev pub from_m : ℕ → Held Stored → List ℕ → List ℕ
from_m k Bubble regs = regs
from_m k (Flushed j) regs = regs
from_m k (Issue j x) regs = if j == k then forward x.effect regs else regs

-- a source register of thread k: its value in E if there is one, else that in M, else that of the
-- bank
abbrev pub operand : List (List ℕ) → Held Stored → Held Executed → ℕ → ℕ → ℕ
operand bank m e k x = reg_in (from_e k e (from_m k m (slice_index_or bank k []))) x
