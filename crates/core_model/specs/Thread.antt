-- A thread, the inputs of its instructions, and the results of each half of an instruction.
use Rattle.std.specs.Prelude.{ℕ, ◌-◌, ◌==◌, Bool, if◌then◌else◌, List}
use Rattle.std.specs.Prelude.{slice_index_or, slice_set, Option, Some, replicate}
use Rattle.rv_exec.specs.declared.outcome.Effect.{Effect}
use Rattle.rv_exec.specs.declared.outcome.Effect.TheVariants.{Nothing, Reg, Csr}
use Rattle.timer_unit.specs.Time.{no_timer}
use Rattle.core_model.specs.declared.own.Own.{Own}

-- a thread between two of its instructions
pub record Thread : Type 0 where
  pub pc : ℕ
  pub ready : ℕ  -- the first cycle in which its next instruction may issue
  pub own : Own
  pub regs : List ℕ  -- x1 to x31

-- the permissions, the time and the registers that an instruction queries while it is executed
pub record Environment : Type 0 where
  pub thread : ℕ
  pub now : ℕ  -- the time of its cycle, in nanoseconds
  pub fetch : ℕ → Bool  -- whether the word at a pc may be fetched
  pub load : ℕ → ℕ → Bool  -- whether a load at an address, of a width, is allowed
  pub store : ℕ → ℕ → Bool  -- whether a store at an address, of a width, is allowed
  pub shared : ℕ → Option ℕ  -- a configuration register, 0x7C0 to 0x7C3, or a refusal

-- the words that it reads
pub record Contents : Type 0 where
  pub code : ℕ → ℕ  -- at a pc
  pub at : ℕ → ℕ  -- the aligned word of the address of a load

-- the result of the execute stage: all but a late value; for a late value the effect is Nothing
pub record Execution : Type 0 where
  pub pc : ℕ
  pub own : Own
  pub lag : ℕ
  pub word : ℕ
  pub address : ℕ  -- of a load or store that is allowed, else 0
  pub effect : Option Effect  -- none for a turn without an event

-- the result of a whole instruction: the thread, the word, and the effect if there is an event
pub record Completion : Type 0 where
  pub thread : Thread
  pub word : ℕ
  pub effect : Option Effect

-- no timer is armed, the thread doesn't sleep, and every trap register is 0
abbrev pub no_own : Own
no_own =
    record {
      timer = no_timer;
      trap = record { mtvec = 0; mscratch = 0; mepc = 0; mcause = 0 };
      sleep = 0;
    }

-- a thread at its entry: every register is 0, and it is ready
abbrev pub fresh : ℕ → Thread
fresh entry = record { pc = entry; ready = 0; own = no_own; regs = replicate 31 0 }

-- a register's value; x0 is 0
abbrev pub reg_in : List ℕ → ℕ → ℕ
reg_in regs x = if x == 0 then 0 else slice_index_or regs (x - 1) 0

-- the registers with one of them written; x0 keeps its 0
abbrev pub reg_set : List ℕ → ℕ → ℕ → List ℕ
reg_set regs x value = if x == 0 then regs else slice_set regs (x - 1) value

-- a write to x0 is no effect
abbrev pub reg_effect : ℕ → ℕ → Effect
reg_effect rd value = if rd == 0 then Nothing else Reg rd value

-- the registers of a thread after an effect
abbrev pub regs_after : Option Effect → List ℕ → List ℕ
regs_after (Some (Reg rd value)) regs = reg_set regs rd value
regs_after (Some (Csr csr value rd old)) regs = reg_set regs rd old
regs_after _ regs = regs

-- the effect with the late value written to its register, in place of Nothing
abbrev pub with_late_value : Option ℕ → ℕ → Option Effect → Option Effect
with_late_value (Some rd) value (Some Nothing) = Some (reg_effect rd value)
with_late_value _ value effect = effect
