-- The thread that is picked in a cycle.
use Rattle.std.specs.Prelude.{ℕ, ◌+◌, ◌<◌, ◌%◌, nat_le, Bool, ◌&&◌, if◌then◌else◌}
use Rattle.std.specs.Prelude.{List, [], ◌∷◌, slice_index_or, map, find, Option, Some, None}
use Rattle.slot_table.specs.Frame.{turn}
use Rattle.slot_table.specs.declared.frame.Turn.{Turn}
use Rattle.slot_table.specs.declared.frame.Turn.TheVariants.{Thread, Soft, Nobody}
use Rattle.slot_scheduler.specs.ModeWord.{is_active, is_soft, mode_of}
use Rattle.slot_scheduler.specs.declared.picking.Pick.{Pick}
use Rattle.slot_scheduler.specs.declared.picking.Pick.TheVariants.{Issue, Bubble}
use Rattle.slot_scheduler.specs.declared.picking.Sched.{Sched}

-- a thread is awake if it is active and the time has reached its sleep moment
unfoldable pub is_awake : Sched → ℕ → ℕ → Bool
is_awake s now thread =
    is_active (mode_of s.modes thread)
    && nat_le (slice_index_or s.sleep thread 0) now

-- whether a thread may take a soft slot, or a slot whose thread isn't awake
abbrev pub takes_donated : Sched → ℕ → ℕ → Bool
takes_donated s now thread = is_soft (mode_of s.modes thread) && is_awake s now thread

-- the threads in the order of the search, which begins after the last picked one and ends with it
unfoldable pub after_last : ℕ → List ℕ
after_last last = map (λ d. (last + d) % 8) (1 ∷ 2 ∷ 3 ∷ 4 ∷ 5 ∷ 6 ∷ 7 ∷ 8 ∷ [])

-- who is picked, and the new round-robin pointer
pub record Picked : Type 0 where
  pub pick : Pick
  pub last : ℕ

-- the pick from the result of the search for a soft thread; the next search continues after it
abbrev pub pick_of_search : Option ℕ → ℕ → Picked
pick_of_search None last = record { pick = Bubble; last = last }
pick_of_search (Some thread) last = record { pick = Issue thread; last = thread }

-- the pick of a soft slot, or of a slot whose thread isn't awake: the next soft thread that is
-- awake
unfoldable pub donation : Sched → ℕ → ℕ → Picked
donation s now last = pick_of_search (find (takes_donated s now) (after_last last)) last

-- a thread picked by its own slot, hard or soft, doesn't move the round-robin pointer
abbrev pub pick_in : Sched → ℕ → ℕ → Turn → Picked
pick_in s now last Nobody = record { pick = Bubble; last = last }
pick_in s now last Soft = donation s now last
pick_in s now last (Thread thread) =
    if is_awake s now thread then record { pick = Issue thread; last = last }
    else donation s now last

-- the pick of a cycle, by slots, modes and sleep moments, the time, and the round-robin pointer
unfoldable pub pick : Sched → ℕ → ℕ → ℕ → Picked
pick s cycle now last = pick_in s now last (turn s.slots cycle)

-- the thread of a pick is one of the eight
abbrev pub IsPick : Pick → Type 0
IsPick (Issue thread) = thread < 8
IsPick Bubble = Unit {0}
