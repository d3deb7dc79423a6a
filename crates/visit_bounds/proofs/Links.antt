-- While the slots and its mode stay, the issues of a thread follow the edges of a section.
use Rattle.std.proofs.Common.{◌≡◌, ℕ, ◌<◌, true, refl, ap, ◌∙◌, subst, arith, Contains}
use Rattle.std.specs.Prelude.{nat_lt, slice_index_or}
use Rattle.std.proofs.lemmas.Bool.Decides.{nat_tests}
use Rattle.region_guard.specs.Regions.{may_fetch, may_read}
use Rattle.region_tree.proofs.GraphLaws.{reachable-aligned, reachable-lies}
use Rattle.region_tree.specs.Edges.{edges_of}
use Rattle.region_tree.specs.Graph.{Reachable, edge_list}
use Rattle.region_tree.specs.Tree.{IsTree, Tree, graph}
use Rattle.region_tree.specs.declared.edges.Stop.{Stop}
use Rattle.region_tree.specs.declared.edges.Stop.TheVariants.{No, Indirect, Timed}
use Rattle.bound_calc.specs.Bound.{positions}
use Rattle.core_model.specs.World.{Start, World, environment, contents, issue_of}
use Rattle.core_model.specs.World.{recent, environment_at, thread_of, world}
use Rattle.isolation.proofs.Picks.{both}
use Rattle.visit_bounds.proofs.Instructions.{Gone, issue-fetches, issue-goes}
use Rattle.visit_bounds.proofs.Linking.{Went, all-below, linked-always, linked_all}
use Rattle.visit_bounds.proofs.Scheduled.{always-set, quiet-keeps}
use Rattle.visit_bounds.specs.InSettings.{HasWords, IsSet, IssuesFollowEdgesInSettings}
use Rattle.visit_bounds.specs.VisitBound.{EdgeOf, HostsSection, IssuesFollowEdges}
use Rattle.visit_bounds.specs.Visits.{issues_of}

pub stop-no : (s : Stop) → (s ≡ Indirect → ⊥) → (s ≡ Timed → ⊥) → s ≡ No
stop-no No a b = refl
stop-no Indirect a b = absurd (a refl)
stop-no Timed a b = absurd (b refl)

-- a fetched address is in the scratchpad
pub fetch-inside : (s : Start) (c : ℕ) (w : World) (i pc : ℕ) →
    (environment_at s c w i).fetch pc ≡ true → pc < s.size
unfolding environment may_fetch
fetch-inside s c w i pc h =
    let low : nat_lt pc s.size ≡ true = (both (nat_lt pc s.size)
    (may_read i s.size (slice_index_or s.confined i true) w.registers.iregions pc) h).0 in
    grind (arith, nat_tests)

went : (t : Tree) (s : Start) (i : ℕ) → IsTree t → HasWords s t →
    Went (Reachable (graph t)) (EdgeOf (graph t)) s i
went t s i is h c reach calm =
    let th = thread_of (recent s c).now i in
    let fetches = issue-fetches (environment_at s c (recent s c).now i)
    (contents s c (recent s c).now i) c th calm in
    let same = h.same_words th.pc reach (fetch-inside s c (recent s c).now i th.pc fetches) in
    let stop = stop-no ((graph t).stop th.pc) (λ e. is.allowed.indirect th.pc (reach, e))
    (λ e. is.allowed.timed th.pc (reach, e)) in
    subst (λ w. Gone (Contains (edge_list (edges_of w th.pc))) c th.own.sleep
    (issue_of s c (recent s c).now i).thread) same
    (issue-goes (environment_at s c (recent s c).now i) (contents s c (recent s c).now i) c th
    (ap (λ w. (edges_of w th.pc).stop) same ∙ stop) calm)

pub issues_in_settings : IssuesFollowEdgesInSettings
issues_in_settings t slots thread s n is h =
    linked_all (Reachable (graph t)) (EdgeOf (graph t)) s slots thread n
    (went t s thread is h) h.eight

-- equal words of a section are equal at the reachable words
pub words-of : (t : Tree) (slots thread : ℕ) (s : Start) → IsTree t →
    HostsSection s t slots thread → HasWords s t
words-of t slots thread s is h = record {
  eight = h.eight;
  same_words =
      λ u reach lt.
      h.same_words u (reachable-aligned t is.draft u reach) (reachable-lies t is.draft u reach) lt;
}

pub follows-from : IssuesFollowEdgesInSettings → IssuesFollowEdges
follows-from law t slots thread s n is h quiet =
    linked-always (IsSet s slots thread) (Reachable (graph t)) (EdgeOf (graph t))
    (positions slots thread) n (issues_of thread (world s n).turns)
    (always-set s slots thread n h.same_slots h.hard (quiet-keeps s n quiet)) (all-below s thread n)
    (law t slots thread s n is (words-of t slots thread s is h))
