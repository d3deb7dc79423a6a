-- Traps: the registers that a trap saves, and the target of MRET. A trap in an instruction's result
-- takes precedence over its other effects.
use Rattle.std.specs.Prelude.{ℕ, Bool, true, false, Option, Some, None}
use Rattle.rv_decode.specs.Lag.{redirect_lag}
use Rattle.rv_exec.specs.declared.outcome.Effect.{Effect}
use Rattle.rv_exec.specs.declared.outcome.Effect.TheVariants.{Nothing, Trap}
use Rattle.core_model.specs.declared.own.Own.{Own}
use Rattle.core_model.specs.Thread.{Execution}

-- a trap saves pc and cause, and jumps to mtvec (RISC-V privileged manual, "Machine-Level CSRs")
abbrev pub trapped : ℕ → Own → ℕ → ℕ → Execution
trapped pc t word cause =
    record {
      pc = t.trap.mtvec;
      own = record t { trap = record t.trap { mepc = pc; mcause = cause } };
      lag = redirect_lag;
      word = word;
      address = 0;
      effect = Some (Trap cause t.trap.mtvec);
    }

-- whether an effect is a trap
abbrev pub is_trap : Option Effect → Bool
is_trap (Some (Trap cause target)) = true
is_trap _ = false

-- MRET jumps to mepc (RISC-V privileged manual, "Trap-Return Instructions")
abbrev pub trap_return : Own → ℕ → Execution
trap_return t word =
    record {
      pc = t.trap.mepc;
      own = t;
      lag = redirect_lag;
      word = word;
      address = 0;
      effect = Some Nothing;
    }

-- a trap of the result takes precedence
abbrev pub unless_trap : ℕ → Own → ℕ → Option ℕ → Execution → Execution
unless_trap pc t word (Some cause) d = trapped pc t word cause
unless_trap pc t word None d = d
