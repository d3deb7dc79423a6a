-- Machines of setups with the words of a section with routines.
use Rattle.std.specs.Prelude.{◌≡◌, ℕ, ◌%◌}
use Rattle.fp_image.specs.Rules.{word}
use Rattle.slot_scheduler.specs.ModeWord.{mode_of}
use Rattle.call_bounds.specs.Calls.{Calls}
use Rattle.visit_bounds.specs.CallVisitBound.{IsMet}
use Rattle.isolation.specs.TraceLaws.{Machine}

-- a machine with these slots, in which thread i is hard and active at the start; its image has
-- these words in all reached functions of a section with routines
pub record IsAlikeInFunctions (m : Machine) (i slots : ℕ) (x : Calls) : Type 0 where
  pub hard : mode_of m.setup.modes i ≡ 0
  pub same_slots : m.setup.slots ≡ slots
  pub same_words : (u : ℕ) → u % 4 ≡ 0 → IsMet x u → word m.image u ≡ x.word u
