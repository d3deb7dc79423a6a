-- The words of a section with routines, and machines that have them.
use Rattle.std.specs.Prelude.{◌≡◌, ℕ, ◌%◌, ◌<◌, length}
use Rattle.core_model.specs.Memory.{code_at}
use Rattle.region_tree.specs.Graph.{Reachable}
use Rattle.slot_scheduler.specs.ModeWord.{mode_of}
use Rattle.core_model.specs.World.{Start}
use Rattle.call_bounds.specs.Calls.{Calls, IsReached, Function, function}

-- a reachable word of a reached function
pub record IsMet (x : Calls) (u : ℕ) : Type 0 where
  pub within : Function
  pub reached : IsReached x within
  pub word : Reachable (function x within) u

-- A machine with these slots, where the thread is hard and active at the start, and where the
-- reached functions have the same words.
pub record HostsCalls (s : Start) (x : Calls) (slots thread : ℕ) : Type 0 where
  pub eight : length s.threads ≡ 8
  pub hard : mode_of s.registers.modes thread ≡ 0
  pub same_slots : s.registers.slots ≡ slots
  pub same_words : (u : ℕ) → u % 4 ≡ 0 → IsMet x u → u < s.size →
      code_at s.size s.i_words u ≡ x.word u
