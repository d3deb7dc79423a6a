-- Abstraction functions of a thread's state.
use Rattle.std.specs.Prelude.{ℕ}
use Rattle.core_model.specs.declared.own.Own.{Own}
use Rattle.core_model.specs.Thread.{Thread, Completion, Environment}
use Rattle.core_model.specs.View.{environment_by}
use Rattle.core_model.specs.Viewed.{region_kinds}
use Rattle.hart_exec.specs.Units.{own_at}
use Rattle.solo_run.specs.declared.thread_state.ThreadState.{ThreadState}
use Rattle.solo_run.specs.declared.thread_state.Issued.{Issued}

-- the thread's own state in the units
abbrev pub own_of : ThreadState → Own
own_of h =
    own_at h.thread
    (record { timers = h.timers; traps = h.traps; sched = h.sched; guard = h.guard })

abbrev pub abstract_thread : ThreadState → Thread
abstract_thread h = record { pc = h.pc; ready = h.ready; own = own_of h; regs = h.registers }

-- the result of an issue
abbrev pub abstract_issue : ThreadState → Issued → Completion
abstract_issue h issued =
    record { thread = abstract_thread h; word = issued.word; effect = issued.effect }

-- the environment of its instructions at a time
abbrev pub abstract_environment : ℕ → ThreadState → Environment
abstract_environment now h =
    environment_by h.thread h.guard.size (region_kinds h.thread h.guard.i)
    (region_kinds h.thread h.guard.d) now
