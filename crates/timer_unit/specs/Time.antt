-- Time in nanoseconds, and each thread's state in the timers.
use Rattle.std.specs.Prelude.{ℕ, ◌+◌, ◌*◌, ◌/◌, ◌%◌, nat_le, Bool, false}
use Rattle.std.specs.Prelude.{List, slice_index_or, Option, Some, None}
use Rattle.timer_unit.specs.declared.row.Timer.{Timer}

-- the most cycles that a run may have, and the last cycle that an input may name: their times fit
-- in 64 bits with every period
abbrev pub most_cycles : ℕ
most_cycles = 4000000000

-- the last cycle whose time the clock computes: ten past the most cycles of a run
abbrev pub last_timed_cycle : ℕ
last_timed_cycle = most_cycles + 10

-- the time of a cycle, by the period of the cycles
abbrev pub time : ℕ → ℕ → ℕ
time period cycle = period * cycle

-- the moment of two words
abbrev pub moment : ℕ → ℕ → ℕ
moment high low = high * 4294967296 + low

-- the low and the high word of a time
abbrev pub low_word : ℕ → ℕ
low_word now = now % 4294967296

abbrev pub high_word : ℕ → ℕ
high_word now = now / 4294967296 % 4294967296

-- whether the time has reached the armed moment; false if none is armed
abbrev pub is_due : Option ℕ → ℕ → Bool
is_due None now = false
is_due (Some armed) now = nat_le armed now

-- a thread's timer at the start: no moment is armed, and the latch is 0
abbrev pub no_timer : Timer
no_timer = record { armed = None; high = 0 }

-- the timer of one of the threads
abbrev pub timer_of : List Timer → ℕ → Timer
timer_of timers thread = slice_index_or timers thread no_timer

-- a timer once the low word of a time is read: the high word is latched
abbrev pub latch_high : Timer → ℕ → Timer
latch_high timer now = record timer { high = high_word now }

-- a timer once a moment is armed, in place of one that was armed before
abbrev pub armed_at : Timer → ℕ → Timer
armed_at timer armed = record timer { armed = Some armed }

-- a timer after disarming
abbrev pub disarm : Timer → Timer
disarm timer = record timer { armed = None }
