-- In a quiet run the issues of a thread follow the edges of a section, as in InSettings.antt while
-- slots and mode stay.
use Rattle.std.specs.Prelude.{◌≡◌, ℕ, ◌-◌, ◌%◌, ◌<◌, ◌≤◌, true}
use Rattle.std.specs.Prelude.{false, List, [], ◌∷◌, length, Contains}
use Rattle.core_model.specs.Memory.{code_at}
use Rattle.region_tree.specs.Graph.{Edge, Graph, Lies, Reachable}
use Rattle.region_tree.specs.Tree.{IsTree, Tree, graph, word_at}
use Rattle.region_tree.specs.Walk.{Course, IsNextTurn, IsOwn, Positions}
use Rattle.slot_scheduler.specs.ModeWord.{mode_of}
use Rattle.bound_calc.specs.Bound.{course}
use Rattle.core_model.specs.World.{Start, is_quiet, world}
use Rattle.visit_bounds.specs.Visits.{Issued, issues_of}

-- A machine with these slots, where the thread is hard and active at the start. The section has the
-- same words, as far as the scratchpad goes. The other threads' code, the rights of all threads and
-- the rest of memory don't matter.
pub record HostsSection (s : Start) (t : Tree) (slots thread : ℕ) : Type 0 where
  pub eight : length s.threads ≡ 8
  pub hard : mode_of s.registers.modes thread ≡ 0
  pub same_slots : s.registers.slots ≡ slots
  pub same_words : (u : ℕ) → u % 4 ≡ 0 → Lies (graph t) u → u < s.size →
      code_at s.size s.i_words u ≡ word_at t u

-- The second issue is at the target of an edge of the first one's word. It is at the thread's first
-- turn that is at least the edge's lag later.
pub record Along (edge_in : ℕ → Edge → Type 0) (s : Positions) (first second : Issued)
    : Type 0 where
  pub edge : Edge
  pub known : edge_in first.pc edge
  pub to : second.pc ≡ edge.to
  pub order : first.cycle ≤ second.cycle
  pub turn : IsNextTurn s edge.lag (first.cycle % length s.frame) (second.cycle - first.cycle)
      (second.cycle % length s.frame)

-- Issues, the newest first, are at the thread's positions. Each that is at a known word and doesn't
-- trap is followed by the next one along an edge.
abbrev pub AreLinked : (ℕ → Type 0) → (ℕ → Edge → Type 0) → Positions → List Issued → Type 0
AreLinked known edge_in s [] = Unit {0}
AreLinked known edge_in s (i ∷ []) = IsOwn s (i.cycle % length s.frame)
AreLinked known edge_in s (i ∷ (h ∷ before)) =
    AreLinked known edge_in s (h ∷ before)
    × IsOwn s (i.cycle % length s.frame)
    × (known h.pc → h.traps ≡ false → Along edge_in s h i)

-- the edges of a graph, as a relation of words and their edges
abbrev pub EdgeOf : Graph → ℕ → Edge → Type 0
EdgeOf g u e = Contains (g.edges u) e

-- each issue at a reachable word that doesn't trap is followed along an edge of the word
abbrev pub FollowEdges : Course → List Issued → Type 0
FollowEdges x issues = AreLinked (Reachable x.graph) (EdgeOf x.graph) x.positions issues

-- In every quiet run of such a machine the thread's issues follow the edges of a section that has a
-- bound.
abbrev pub IssuesFollowEdges : Type 0
IssuesFollowEdges =
    (t : Tree) (slots thread : ℕ) (s : Start) (n : ℕ) → IsTree t → HostsSection s t slots thread →
    is_quiet s n ≡ true → FollowEdges (course t slots thread) (issues_of thread (world s n).turns)
