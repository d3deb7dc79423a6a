-- How each world follows from earlier ones.
use Rattle.std.specs.Prelude.{◌≡◌, ℕ, suc, ◌-◌}
use Rattle.core_model.specs.World.{Start, world, after_turn, sched_of}
use Rattle.core_model.specs.Delays.{cycles_to_e}

-- the world after cycle c follows from the world before c; picking uses the slots, modes and sleep
-- moments of the world before cycle c - 2
abbrev pub NextWorld : Type 0
NextWorld =
    (s : Start) (c : ℕ) →
    world s (suc c) ≡ after_turn s c (world s c) (sched_of (world s (c - cycles_to_e)))
