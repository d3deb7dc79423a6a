-- The issues of a setup's machine, the section of its image, and machines with the same section.
use Rattle.std.specs.Prelude.{◌≡◌, ℕ, ◌%◌, ◌<◌, ◌≤◌, List}
use Rattle.fp_image.specs.Rules.{word}
use Rattle.fp_image.specs.declared.parts.Segment.{Segment}
use Rattle.fp_setup.specs.Settings.{Settings}
use Rattle.slot_scheduler.specs.ModeWord.{mode_of}
use Rattle.region_tree.specs.Tree.{Tree, tree_of}
use Rattle.region_tree.specs.declared.section.Section.{Section}
use Rattle.core_model.specs.World.{world}
use Rattle.setup_model.specs.Start.{start}
use Rattle.isolation.specs.TraceLaws.{Machine}
use Rattle.visit_bounds.specs.Visits.{Issued, issues_of}

-- the issues of thread i in n cycles, the newest first
abbrev pub issues : Machine → ℕ → ℕ → List Issued
issues m i n = issues_of i (world (start m.setup m.image m.ports n) n).turns

-- a machine with these slots, in which thread i is hard and active at the start; its image has the
-- same words in a section as this one
pub record IsAlike (m : Machine) (i slots : ℕ) (image : List Segment) (s : Section) : Type 0 where
  pub hard : mode_of m.setup.modes i ≡ 0
  pub same_slots : m.setup.slots ≡ slots
  pub same_words : (u : ℕ) → u % 4 ≡ 0 → s.from ≤ u → u < s.to → word m.image u ≡ word image u

-- the section of a setup's image, with the setup's loops
abbrev pub tree_in : Settings → List Segment → Section → Tree
tree_in setup image s = tree_of (word image) s setup.loops
