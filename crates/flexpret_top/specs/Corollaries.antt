-- What follows from the guarantees of Headline.antt: the same texts and bounds by simpler premises.
use Rattle.std.specs.Prelude.{ℕ, ◌+◌, ◌-◌, ◌≤◌, List, Option}
use Rattle.std.specs.Io.KnownBytes.{Appends}
use Rattle.call_bounds.specs.Calls.{Calls}
use Rattle.call_bounds.specs.Listing.{calls}
use Rattle.core_model.specs.Delays.{cycles_to_e, cycles_to_w}
use Rattle.core_model.specs.Phased.{phase_at, phased}
use Rattle.core_model.specs.Solo.{solo}
use Rattle.fp_setup.specs.Rules.{KeepsRules}
use Rattle.region_tree.specs.Tree.{graph}
use Rattle.region_tree.specs.declared.section.Section.{Section}
use Rattle.isolation.specs.TraceLaws.{Machine, IsConfinedHard, IsConfinedThrough}
use Rattle.isolation.specs.TraceLaws.{IsQuiet, KeepsRegions, phases_in, view_of}
use Rattle.visit_bounds.specs.CallVisits.{IsCallVisit, KeepsCallBounds, KeepsReturns}
use Rattle.visit_bounds.specs.InSettings.{Throughout}
use Rattle.visit_bounds.specs.SetupCallVisitBound.{IsAlikeInFunctions}
use Rattle.visit_bounds.specs.SetupInSettings.{HasSameWords, HasSameWordsOfFunctions, IsHardPhase}
use Rattle.visit_bounds.specs.SetupInSettings.{KeepsScheduling, StartsHard}
use Rattle.visit_bounds.specs.SetupVisitBound.{IsAlike, issues}
use Rattle.visit_bounds.specs.Visits.{Issued, IsVisit, KeepsBounds, first_of}
use Rattle.trace_print.specs.Text.{text}
use Rattle.commands.specs.BoundAnswer.{section_tree}
use Rattle.commands.specs.CallsAnswer.{section_listing}
use Rattle.commands.specs.declared.program.Program.{Program}
use Rattle.flexpret_top.specs.Headline.{IsIsolated, IsLongest, IsLongestByCalls}

-- a confined hard thread, in a run that writes no configuration register
abbrev pub QuietIsolation : Type 0
QuietIsolation =
    (m : Machine) (i n : ℕ) (before after : Option (List ℕ)) → IsIsolated m i n before after →
    IsConfinedHard m i → IsQuiet m n → Appends before after (text (solo (view_of m i n) n))

-- a confined thread that is never soft and active, in a run that writes no region register
abbrev pub QuietIsolationByPhases : Type 0
QuietIsolationByPhases =
    (m : Machine) (i n : ℕ) (before after : Option (List ℕ)) → IsIsolated m i n before after →
    IsConfinedThrough m i n → KeepsRegions m n →
    Appends before after (text (phased (view_of m i n) (phases_in m n) n))

-- No visit of a section takes longer than so many cycles in a run of a machine, if it keeps the
-- stated loop bounds.
abbrev pub VisitsTakeAtMost : Program → Section → ℕ → Machine → ℕ → ℕ → Type 0
VisitsTakeAtMost p section cycles m i n =
    (last : Issued) (earlier : List Issued) →
    IsVisit (graph (section_tree p section)) (issues m i n) last earlier →
    KeepsBounds (section_tree p section).loops last earlier →
    last.cycle - (first_of last earlier).cycle ≤ cycles

-- no call visit does, if its returns match its calls and it keeps the stated loop bounds
abbrev pub CallVisitsTakeAtMost : Calls → ℕ → Machine → ℕ → ℕ → Type 0
CallVisitsTakeAtMost x cycles m i n =
    (last : Issued) (earlier : List Issued) → IsCallVisit x (issues m i n) last earlier →
    KeepsReturns x last earlier → KeepsCallBounds x last earlier →
    last.cycle - (first_of last earlier).cycle ≤ cycles

-- The number of `bound` holds for a thread that starts hard and active with the same slots, while
-- no issue writes slots or modes. The words that the section can reach are the same.
abbrev pub LongestWhileScheduled : Type 0
LongestWhileScheduled =
    (p : Program) (i : ℕ) (section : Section) (before after : Option (List ℕ))
    (h : IsLongest p i section before after) (m : Machine) (n : ℕ) → KeepsRules m.setup →
    StartsHard m i p.setup.slots → HasSameWords m (section_tree p section) p.image →
    KeepsScheduling m n → VisitsTakeAtMost p section h.cycles m i n

-- It holds for a visit whose cycles all have settings with these slots, in which the thread is hard
-- and active. The settings are those that `phases` writes.
abbrev pub LongestByPhases : Type 0
LongestByPhases =
    (p : Program) (i : ℕ) (section : Section) (before after : Option (List ℕ))
    (h : IsLongest p i section before after) (m : Machine) (n : ℕ) → KeepsRules m.setup →
    HasSameWords m (section_tree p section) p.image → (last : Issued) (earlier : List Issued) →
    last.cycle ≤ n - cycles_to_w + cycles_to_e →
    Throughout (λ c. IsHardPhase p.setup.slots i (phase_at (phases_in m n) c))
    (first_of last earlier).cycle last.cycle →
    IsVisit (graph (section_tree p section)) (issues m i n) last earlier →
    KeepsBounds (section_tree p section).loops last earlier →
    last.cycle - (first_of last earlier).cycle ≤ h.cycles

-- It holds in a quiet run of a machine whose image has the same words in the section.
abbrev pub LongestWhileQuiet : Type 0
LongestWhileQuiet =
    (p : Program) (i : ℕ) (section : Section) (before after : Option (List ℕ))
    (h : IsLongest p i section before after) (m : Machine) (n : ℕ) → KeepsRules m.setup →
    IsAlike m i p.setup.slots p.image section → IsQuiet m n →
    VisitsTakeAtMost p section h.cycles m i n

-- the three for the number of `calls`
abbrev pub LongestByCallsWhileScheduled : Type 0
LongestByCallsWhileScheduled =
    (p : Program) (i : ℕ) (section : Section) (file : List ℕ) (before after : Option (List ℕ))
    (h : IsLongestByCalls p i section file before after) (m : Machine) (n : ℕ) →
    KeepsRules m.setup → StartsHard m i p.setup.slots →
    HasSameWordsOfFunctions m (calls (section_listing p section h.routines)) → KeepsScheduling m n →
    CallVisitsTakeAtMost (calls (section_listing p section h.routines)) h.cycles m i n

abbrev pub LongestByCallsByPhases : Type 0
LongestByCallsByPhases =
    (p : Program) (i : ℕ) (section : Section) (file : List ℕ) (before after : Option (List ℕ))
    (h : IsLongestByCalls p i section file before after) (m : Machine) (n : ℕ) →
    KeepsRules m.setup → HasSameWordsOfFunctions m (calls (section_listing p section h.routines)) →
    (last : Issued) (earlier : List Issued) → last.cycle ≤ n - cycles_to_w + cycles_to_e →
    Throughout (λ c. IsHardPhase p.setup.slots i (phase_at (phases_in m n) c))
    (first_of last earlier).cycle last.cycle →
    IsCallVisit (calls (section_listing p section h.routines)) (issues m i n) last earlier →
    KeepsReturns (calls (section_listing p section h.routines)) last earlier →
    KeepsCallBounds (calls (section_listing p section h.routines)) last earlier →
    last.cycle - (first_of last earlier).cycle ≤ h.cycles

abbrev pub LongestByCallsWhileQuiet : Type 0
LongestByCallsWhileQuiet =
    (p : Program) (i : ℕ) (section : Section) (file : List ℕ) (before after : Option (List ℕ))
    (h : IsLongestByCalls p i section file before after) (m : Machine) (n : ℕ) →
    KeepsRules m.setup →
    IsAlikeInFunctions m i p.setup.slots (calls (section_listing p section h.routines)) →
    IsQuiet m n → CallVisitsTakeAtMost (calls (section_listing p section h.routines)) h.cycles m i n
