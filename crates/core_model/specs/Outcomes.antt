-- The outcomes of an instruction. Each definition takes its inputs as plain values. A lag is the
-- number of cycles after which the thread's next instruction may issue.
use Rattle.std.specs.Prelude.{ℕ, ◌+◌, ◌%◌, ◌^◌, Bool, if◌then◌else◌, Some}
use Rattle.rv_decode.specs.Lag.{plain_lag, late_lag, redirect_lag}
use Rattle.rv_exec.specs.declared.outcome.Effect.{Effect}
use Rattle.rv_exec.specs.declared.outcome.Effect.TheVariants.{Nothing, Store}
use Rattle.rv_exec.specs.TrapCauses.{cause_load_fault, cause_store_fault}
use Rattle.core_model.specs.declared.own.Own.{Own}
use Rattle.core_model.specs.Thread.{Execution, reg_effect}
use Rattle.core_model.specs.Traps.{trapped}

-- the address b bytes after a; addresses wrap
abbrev pub plus : ℕ → ℕ → ℕ
plus a b = (a + b) % 2 ^ 32

-- the thread continues at the next word after a lag
abbrev pub advance : ℕ → Own → ℕ → ℕ → Effect → Execution
advance pc t word lag effect =
    record { pc = plus pc 4; own = t; lag = lag; word = word; address = 0; effect = Some effect }

-- a register is written, and the thread continues at the next word
abbrev pub write : ℕ → Own → ℕ → ℕ → ℕ → ℕ → Execution
write pc t word lag rd value = advance pc t word lag (reg_effect rd value)

-- memory or the port is read or written at an address
abbrev pub access : ℕ → Own → ℕ → ℕ → ℕ → Effect → Execution
access pc t word lag address effect = record {
  pc = plus pc 4;
  own = t;
  lag = lag;
  word = word;
  address = address;
  effect = Some effect;
}

-- a load; a refused one raises a load access fault
unfoldable pub load : ℕ → Own → ℕ → ℕ → Bool → Execution
load pc t word address allowed =
    if allowed then access pc t word late_lag address Nothing
    else trapped pc t word cause_load_fault

-- a store; a refused one raises a store access fault
unfoldable pub store : ℕ → Own → ℕ → ℕ → ℕ → ℕ → Bool → Execution
store pc t word address width value allowed =
    if allowed then access pc t word plain_lag address (Store address width value)
    else trapped pc t word cause_store_fault

-- a jump, with its effect on a register
abbrev pub go_to : Own → ℕ → ℕ → Effect → Execution
go_to t word target effect = record {
  pc = target;
  own = t;
  lag = redirect_lag;
  word = word;
  address = 0;
  effect = Some effect;
}

-- a branch, taken or not
unfoldable pub branch : ℕ → Own → ℕ → Bool → ℕ → Execution
branch pc t word taken target =
    if taken then go_to t word target Nothing else advance pc t word plain_lag Nothing
