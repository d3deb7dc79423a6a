-- The bound of a section bounds a visit during which the slots and the thread's mode don't change.
-- Writes of them before and after it don't matter, nor do writes of region registers.
use Rattle.std.specs.Prelude.{◌≡◌, ℕ, ◌-◌, ◌%◌, ◌<◌, ◌≤◌, false, List, [], ◌∷◌, length}
use Rattle.core_model.specs.Memory.{code_at}
use Rattle.region_tree.specs.Graph.{Edge, Reachable}
use Rattle.region_tree.specs.Tree.{IsTree, Tree, graph, word_at}
use Rattle.region_tree.specs.Walk.{CostsOf, IsOwn, Positions}
use Rattle.slot_scheduler.specs.ModeWord.{mode_of}
use Rattle.bound_calc.specs.Bound.{course}
use Rattle.core_model.specs.World.{Registers, Start, world}
use Rattle.core_model.specs.Delays.{cycles_to_e}
use Rattle.visit_bounds.specs.VisitBound.{Along, EdgeOf}
use Rattle.visit_bounds.specs.Visits.{Issued, IsVisit, KeepsBounds, first_of, issues_of}

-- the registers have these slots, and the thread is hard and active in them
pub record IsHardBy (slots thread : ℕ) (r : Registers) : Type 0 where
  pub same_slots : r.slots ≡ slots
  pub hard : mode_of r.modes thread ≡ 0

-- picking in cycle c uses such registers: those of two cycles before
abbrev pub IsSet : Start → ℕ → ℕ → ℕ → Type 0
IsSet s slots thread c = IsHardBy slots thread (world s (c - cycles_to_e)).registers

-- a condition holds in each cycle from the first to the last
abbrev pub Throughout : (ℕ → Type 0) → ℕ → ℕ → Type 0
Throughout set first last = (c : ℕ) → first ≤ c → c ≤ last → set c

-- Issues, the newest first. One in a set cycle is at a position of the thread's. One at a known
-- word that doesn't trap is followed by the next one along an edge. This needs each cycle from the
-- one to the other to be set.
abbrev pub AreLinkedIn : (ℕ → Type 0) → (ℕ → Type 0) → (ℕ → Edge → Type 0) → Positions →
    List Issued → Type 0
AreLinkedIn set known edge_in s [] = Unit {0}
AreLinkedIn set known edge_in s (i ∷ []) = set i.cycle → IsOwn s (i.cycle % length s.frame)
AreLinkedIn set known edge_in s (i ∷ (h ∷ before)) =
    AreLinkedIn set known edge_in s (h ∷ before)
    × (h.cycle < i.cycle)
    × (set i.cycle → IsOwn s (i.cycle % length s.frame))
    × (Throughout set h.cycle i.cycle → known h.pc → h.traps ≡ false → Along edge_in s h i)

-- A machine whose memory has a section's reachable words, as far as the scratchpad goes. Words of
-- the section that are never reached don't matter.
pub record HasWords (s : Start) (t : Tree) : Type 0 where
  pub eight : length s.threads ≡ 8
  pub same_words : (u : ℕ) → Reachable (graph t) u → u < s.size →
      code_at s.size s.i_words u ≡ word_at t u

-- In every run of such a machine the thread's issues follow the edges of the section, while the
-- slots and its mode don't change. The section has a bound.
abbrev pub IssuesFollowEdgesInSettings : Type 0
IssuesFollowEdgesInSettings =
    (t : Tree) (slots thread : ℕ) (s : Start) (n : ℕ) → IsTree t → HasWords s t →
    AreLinkedIn (IsSet s slots thread) (Reachable (graph t)) (EdgeOf (graph t))
    (course t slots thread).positions (issues_of thread (world s n).turns)

-- In a run of such a machine a visit takes no longer than any upper bound on the cost of the
-- section's paths. This holds if picking uses these slots and a hard active mode of the thread
-- during the visit. The visit must keep the stated bounds of the loops.
abbrev pub VisitsAreBoundedInSettings : Type 0
VisitsAreBoundedInSettings =
    (t : Tree) (slots thread b : ℕ) (s : Start) (n : ℕ) → IsTree t →
    ((c : ℕ) → CostsOf (course t slots thread) c → c ≤ b) →
    HasWords s t → (last : Issued) (before : List Issued) →
    Throughout (IsSet s slots thread) (first_of last before).cycle last.cycle →
    IsVisit (graph t) (issues_of thread (world s n).turns) last before →
    KeepsBounds t.loops last before → last.cycle - (first_of last before).cycle ≤ b
