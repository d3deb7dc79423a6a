-- Waiting: the instructions DU and WU, and updates of a thread's timer. Each definition takes its
-- inputs as plain values. A lag is the number of cycles after which the thread's next instruction
-- may issue.
use Rattle.std.specs.Prelude.{ℕ, nat_le, min, if◌then◌else◌, Option, Some, None}
use Rattle.rv_decode.specs.Lag.{redirect_lag}
use Rattle.rv_exec.specs.declared.outcome.Effect.TheVariants.{Nothing, Wait}
use Rattle.core_model.specs.declared.own.Own.{Own}
use Rattle.core_model.specs.Thread.{Execution}
use Rattle.core_model.specs.Outcomes.{advance}

-- a turn that stays at the same pc, without an event
abbrev pub spin : ℕ → Own → ℕ → Execution
spin pc t word =
    record { pc = pc; own = t; lag = redirect_lag; word = word; address = 0; effect = None }

-- DU: the thread repeats the instruction until the moment
unfoldable pub delay : ℕ → ℕ → Own → ℕ → ℕ → Execution
delay now pc t word until =
    if nat_le until now then advance pc t word redirect_lag Nothing else spin pc t word

-- the earlier of a moment and the armed moment, if one is armed
abbrev pub or_armed : ℕ → Option ℕ → ℕ
or_armed until None = until
or_armed until (Some armed) = min until armed

-- WU: the thread sleeps until the moment, or until its armed moment if that is earlier
unfoldable pub wait : ℕ → ℕ → Own → ℕ → ℕ → Execution
wait now pc t word until =
    if nat_le until now then advance pc t word redirect_lag Nothing
    else advance pc (record t { sleep = or_armed until t.timer.armed }) word redirect_lag Wait

-- a thread with a new armed moment, or none
abbrev pub with_armed : Own → Option ℕ → Own
with_armed t moment = record t { timer = record t.timer { armed = moment } }

-- a thread with a new latched high word of the time
abbrev pub with_high : Own → ℕ → Own
with_high t high = record t { timer = record t.timer { high = high } }
