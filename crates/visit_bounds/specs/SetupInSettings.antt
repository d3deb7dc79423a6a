-- Bounds for the machines of setups, images and ports, of a visit during which the slots and the
-- thread's mode don't change. Premises.antt has simpler premises.
use Rattle.std.specs.Prelude.{◌≡◌, ℕ, ◌-◌, ◌≤◌, true, List}
use Rattle.fp_image.specs.Rules.{word}
use Rattle.fp_image.specs.declared.parts.Segment.{Segment}
use Rattle.fp_setup.specs.Rules.{KeepsRules}
use Rattle.fp_setup.specs.Settings.{Settings}
use Rattle.slot_scheduler.specs.ModeWord.{mode_of}
use Rattle.core_model.specs.declared.phase.Phase.{Phase}
use Rattle.core_model.specs.Phases.{keeps_scheduling}
use Rattle.region_tree.specs.Graph.{Reachable}
use Rattle.region_tree.specs.Tree.{IsTree, Tree, graph}
use Rattle.region_tree.specs.Walk.{CostsOf}
use Rattle.region_tree.specs.declared.section.Section.{Section}
use Rattle.bound_calc.specs.Bound.{course}
use Rattle.call_bounds.specs.CallRefusals.{IsCallable, IsListing}
use Rattle.call_bounds.specs.CallWalk.{CostsOf as CallCostsOf, route}
use Rattle.call_bounds.specs.Calls.{Calls}
use Rattle.setup_model.specs.Start.{start}
use Rattle.isolation.specs.TraceLaws.{Machine}
use Rattle.visit_bounds.specs.CallVisitBound.{IsMet}
use Rattle.visit_bounds.specs.CallVisits.{IsCallVisit, KeepsReturns}
use Rattle.visit_bounds.specs.CallVisits.{KeepsCallBounds}
use Rattle.visit_bounds.specs.InSettings.{IsSet, Throughout}
use Rattle.visit_bounds.specs.SetupVisitBound.{issues, tree_in}
use Rattle.visit_bounds.specs.Visits.{Issued, IsVisit, KeepsBounds, first_of}

-- the image of the machine has the same reachable words of a section as another image
abbrev pub HasSameWords : Machine → Tree → List Segment → Type 0
HasSameWords m t image = (u : ℕ) → Reachable (graph t) u → word m.image u ≡ word image u

-- it has the same reachable words of the reached functions
abbrev pub HasSameWordsOfFunctions : Machine → Calls → Type 0
HasSameWordsOfFunctions m x = (u : ℕ) → IsMet x u → word m.image u ≡ x.word u

-- in a cycle of a run of n cycles picking uses these slots, and thread i is hard and active
abbrev pub IsSetIn : Machine → (i slots n c : ℕ) → Type 0
IsSetIn m i slots n c = IsSet (start m.setup m.image m.ports n) slots i c

-- a setting has these slots, and thread i is hard and active in it
pub record IsHardPhase (slots i : ℕ) (p : Phase) : Type 0 where
  pub same_slots : p.slots ≡ slots
  pub hard : mode_of p.modes i ≡ 0

-- no issue of n cycles writes slots or modes; region registers may be written
abbrev pub KeepsScheduling : Machine → ℕ → Type 0
KeepsScheduling m n = keeps_scheduling (start m.setup m.image m.ports n) n ≡ true

-- the setup of the machine has these slots, and thread i is hard and active at the start
pub record StartsHard (m : Machine) (i slots : ℕ) : Type 0 where
  pub same_slots : m.setup.slots ≡ slots
  pub hard : mode_of m.setup.modes i ≡ 0

-- A visit takes no longer than an upper bound on the cost of the section's paths, for any slots.
-- This holds if picking uses these slots throughout, thread i is hard and active, and the visit
-- keeps the bounds of the loops.
abbrev pub VisitsStayBoundedInSettings : Type 0
VisitsStayBoundedInSettings =
    (setup : Settings) (image : List Segment) (s : Section) (slots i b : ℕ) (m : Machine) (n : ℕ) →
    IsTree (tree_in setup image s) →
    ((c : ℕ) → CostsOf (course (tree_in setup image s) slots i) c → c ≤ b) → KeepsRules m.setup →
    HasSameWords m (tree_in setup image s) image → (last : Issued) (before : List Issued) →
    Throughout (IsSetIn m i slots n) (first_of last before).cycle last.cycle →
    IsVisit (graph (tree_in setup image s)) (issues m i n) last before →
    KeepsBounds (tree_in setup image s).loops last before →
    last.cycle - (first_of last before).cycle ≤ b

-- the same for call visits with matching returns, and paths with matching calls and returns
abbrev pub CallVisitsStayBoundedInSettings : Type 0
CallVisitsStayBoundedInSettings =
    (x : Calls) (slots i b : ℕ) (m : Machine) (n : ℕ) → IsListing x →
    IsCallable x → ((c : ℕ) → CallCostsOf (route x slots i) c → c ≤ b) →
    KeepsRules m.setup → HasSameWordsOfFunctions m x → (last : Issued) (before : List Issued) →
    Throughout (IsSetIn m i slots n) (first_of last before).cycle last.cycle →
    IsCallVisit x (issues m i n) last before → KeepsReturns x last before →
    KeepsCallBounds x last before → last.cycle - (first_of last before).cycle ≤ b
