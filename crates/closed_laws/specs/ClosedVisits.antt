-- The bounds of visits in closed loops, for the machine of a setup, an image, ports, and sampled
-- plants at the threads' ports.
use Rattle.std.specs.Prelude.{◌≡◌, ℕ, ◌-◌, ◌≤◌, true, List}
use Rattle.fp_image.specs.declared.parts.Segment.{Segment}
use Rattle.fp_setup.specs.Rules.{KeepsRules}
use Rattle.fp_setup.specs.Settings.{Settings}
use Rattle.core_model.specs.Phases.{keeps_scheduling}
use Rattle.core_model.specs.World.{world}
use Rattle.region_tree.specs.Tree.{IsTree, graph}
use Rattle.region_tree.specs.Walk.{CostsOf}
use Rattle.region_tree.specs.declared.section.Section.{Section}
use Rattle.bound_calc.specs.Bound.{course}
use Rattle.call_bounds.specs.CallRefusals.{IsCallable, IsListing}
use Rattle.call_bounds.specs.CallWalk.{CostsOf as CallCostsOf, route}
use Rattle.call_bounds.specs.Calls.{Calls}
use Rattle.isolation.specs.TraceLaws.{Machine}
use Rattle.visit_bounds.specs.CallVisits.{IsCallVisit, KeepsReturns}
use Rattle.visit_bounds.specs.CallVisits.{KeepsCallBounds}
use Rattle.visit_bounds.specs.InSettings.{IsSet, Throughout}
use Rattle.visit_bounds.specs.SetupInSettings.{HasSameWords, HasSameWordsOfFunctions, StartsHard}
use Rattle.visit_bounds.specs.SetupVisitBound.{tree_in}
use Rattle.visit_bounds.specs.Visits.{Issued, IsVisit, KeepsBounds, first_of, issues_of}
use Rattle.closed_laws.specs.ClosedTraces.{Responses, loop_run}

-- the issues of thread i in n cycles, the newest first
abbrev pub loop_issues : Machine → Responses → (every i n : ℕ) → List Issued
loop_issues m responses every i n =
    issues_of i (world (loop_run m responses every n) n).turns

-- in a cycle picking uses these slots, and thread i is hard and active
abbrev pub IsSetInLoop : Machine → Responses → (every i slots n c : ℕ) → Type 0
IsSetInLoop m responses every i slots n c = IsSet (loop_run m responses every n) slots i c

-- no issue of n cycles writes slots or modes; region registers may be written
abbrev pub KeepsLoopScheduling : Machine → Responses → (every n : ℕ) → Type 0
KeepsLoopScheduling m responses every n =
    keeps_scheduling (loop_run m responses every n) n ≡ true

-- A visit takes no longer than an upper bound on the cost of the section's paths, for any slots.
-- This holds if picking uses these slots throughout, thread i is hard and active, and the visit
-- keeps the bounds of the loops. The plants and the other threads don't matter.
abbrev pub LoopVisitsStayBoundedInSettings : Type 0
LoopVisitsStayBoundedInSettings =
    (setup : Settings) (image : List Segment) (s : Section) (slots i b : ℕ) (m : Machine)
    (responses : Responses) (every n : ℕ) → IsTree (tree_in setup image s) →
    ((c : ℕ) → CostsOf (course (tree_in setup image s) slots i) c → c ≤ b) → KeepsRules m.setup →
    HasSameWords m (tree_in setup image s) image → (last : Issued) (before : List Issued) →
    Throughout (IsSetInLoop m responses every i slots n) (first_of last before).cycle last.cycle →
    IsVisit (graph (tree_in setup image s)) (loop_issues m responses every i n) last before →
    KeepsBounds (tree_in setup image s).loops last before →
    last.cycle - (first_of last before).cycle ≤ b

-- the same for all visits by a thread that starts hard and active, while no issue writes slots or
-- modes
abbrev pub LoopVisitsStayBounded : Type 0
LoopVisitsStayBounded =
    (setup : Settings) (image : List Segment) (s : Section) (slots i b : ℕ) (m : Machine)
    (responses : Responses) (every n : ℕ) → IsTree (tree_in setup image s) →
    ((c : ℕ) → CostsOf (course (tree_in setup image s) slots i) c → c ≤ b) →
    KeepsRules m.setup → StartsHard m i slots → HasSameWords m (tree_in setup image s) image →
    KeepsLoopScheduling m responses every n → (last : Issued) (before : List Issued) →
    IsVisit (graph (tree_in setup image s)) (loop_issues m responses every i n) last before →
    KeepsBounds (tree_in setup image s).loops last before →
    last.cycle - (first_of last before).cycle ≤ b

-- both for call visits with matching returns, and paths with matching calls and returns
abbrev pub LoopCallVisitsStayBoundedInSettings : Type 0
LoopCallVisitsStayBoundedInSettings =
    (x : Calls) (slots i b : ℕ) (m : Machine) (responses : Responses) (every n : ℕ) → IsListing x →
    IsCallable x → ((c : ℕ) → CallCostsOf (route x slots i) c → c ≤ b) →
    KeepsRules m.setup → HasSameWordsOfFunctions m x → (last : Issued) (before : List Issued) →
    Throughout (IsSetInLoop m responses every i slots n) (first_of last before).cycle last.cycle →
    IsCallVisit x (loop_issues m responses every i n) last before → KeepsReturns x last before →
    KeepsCallBounds x last before → last.cycle - (first_of last before).cycle ≤ b

abbrev pub LoopCallVisitsStayBounded : Type 0
LoopCallVisitsStayBounded =
    (x : Calls) (slots i b : ℕ) (m : Machine) (responses : Responses) (every n : ℕ) → IsListing x →
    IsCallable x → ((c : ℕ) → CallCostsOf (route x slots i) c → c ≤ b) →
    KeepsRules m.setup → StartsHard m i slots → HasSameWordsOfFunctions m x →
    KeepsLoopScheduling m responses every n → (last : Issued) (before : List Issued) →
    IsCallVisit x (loop_issues m responses every i n) last before → KeepsReturns x last before →
    KeepsCallBounds x last before → last.cycle - (first_of last before).cycle ≤ b
