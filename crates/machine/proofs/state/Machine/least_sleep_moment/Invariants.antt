use Rattle.std.proofs.Common.{◌≡◌, ℕ, ◌<◌, ◌≤◌, true, get_or}
use Rattle.slot_scheduler.specs.ModeWord.{is_active, mode_of}
use Rattle.machine.proofs.state.Machine.least_sleep_moment.Given as goal

abbrev pub invariant-loop-thread : goal.invariant-loop-thread
invariant-loop-thread l =
    (k : ℕ) → k < l.thread → is_active (mode_of l.self.units.sched.modes k) ≡ true →
    l.first ≤ get_or l.self.units.sched.sleep k 0
