-- The issues of a visit are a path. Its cost is the visit's length.
use Rattle.std.proofs.Common.{◌≡◌, ℕ, ◌+◌, ◌-◌, ◌%◌, ◌<◌, ◌≤◌, inl, inr, ◌⊎◌, List, []}
use Rattle.std.proofs.Common.{◌∷◌, ◌++◌, length, refl, ap, sym, subst, arith, Contains}
use Rattle.fp_setup.specs.declared.loop_list.LoopSetup.{LoopSetup}
use Rattle.region_tree.specs.Graph.{Graph, Lies, Reachable}
use Rattle.region_tree.specs.Graph.Reachable.{first, next}
use Rattle.region_tree.specs.Tree.{graph}
use Rattle.region_tree.specs.Walk.{CostsOf, Course, IsStep, IsWalk}
use Rattle.region_tree.specs.Walk.{Step, cost, counter_after, counter}
use Rattle.region_tree.specs.Walk.CostsOf.{ends, leaves}
use Rattle.bound_calc.specs.Bound.{course}
use Rattle.visit_bounds.proofs.Linking.{linked-after, linked-own}
use Rattle.visit_bounds.specs.InSettings.{AreLinkedIn, IsSet, IssuesFollowEdgesInSettings}
use Rattle.visit_bounds.specs.InSettings.{Throughout, VisitsAreBoundedInSettings}
use Rattle.visit_bounds.specs.VisitBound.{Along, EdgeOf}
use Rattle.visit_bounds.specs.Visits.{StaysInSection, Issued, KeepsBounds, counter_at, first_of}

-- the edges of a course, as a relation
abbrev Follows : Course → Issued → Issued → Type 0
Follows x h i = Along (EdgeOf x.graph) x.positions h i

-- issues that follow the edges while the cycles are set
abbrev FollowIn : (ℕ → Type 0) → Course → List Issued → Type 0
FollowIn set x l = AreLinkedIn set (Reachable x.graph) (EdgeOf x.graph) x.positions l

-- the step from an issue to the one that follows it
step_of : (x : Course) (h i : Issued) → Follows x h i → Step
step_of x h i f = record {
  from = h.pc;
  at = h.cycle % length x.positions.frame;
  lag = f.edge.lag;
  cost = i.cycle - h.cycle;
  to = i.pc;
  position = i.cycle % length x.positions.frame;
}

is-step : (x : Course) (h i : Issued) (f : Follows x h i) → IsStep x (record {
  from = h.pc;
  at = h.cycle % length x.positions.frame;
  lag = f.edge.lag;
  cost = i.cycle - h.cycle;
  to = i.pc;
  position = i.cycle % length x.positions.frame;
})
is-step x h i f = record {
  edge =
      subst (λ v. Contains (x.graph.edges h.pc) (record { to = v; lag = f.edge.lag }))
      (sym f.to) f.known;
  turn = f.turn;
}

-- the issues up to one in the section, as a path
record IsPathTo (x : Course) (i : Issued) (before : List Issued) : Type 0 where
  steps : List Step
  walk : IsWalk x ((first_of i before).cycle % length x.positions.frame) steps i.pc
      (i.cycle % length x.positions.frame)
  order : (first_of i before).cycle ≤ i.cycle
  long : cost steps ≡ i.cycle - (first_of i before).cycle
  counters : (j : LoopSetup) → counter j 0 steps ≡ counter_at j i before
  reached : Reachable x.graph i.pc

-- the cycles up to the issue before the last one, and those from it on
until-last : (set : ℕ → Type 0) (x : Course) (i h : Issued) (before earlier : List Issued) →
    FollowIn set x (i ∷ (h ∷ (before ++ earlier))) →
    Throughout set (first_of h before).cycle i.cycle →
    Throughout set (first_of h before).cycle h.cycle
until-last set x i h before earlier l here c low high =
    let order = l.1 in here c low (let up : c ≤ i.cycle = omega arith in up)

from-last : (set : ℕ → Type 0) (x : Course) (i h : Issued) (before : List Issued) →
    Throughout set (first_of h before).cycle i.cycle → IsPathTo x h before →
    Throughout set h.cycle i.cycle
from-last set x i h before here w c low high =
    let order = w.order in
    here c (let from : (first_of h before).cycle ≤ c = omega arith in from) high

walked : (set : ℕ → Type 0) (x : Course) (i : Issued) (before earlier : List Issued) →
    FollowIn set x (i ∷ (before ++ earlier)) → Throughout set (first_of i before).cycle i.cycle →
    (first_of i before).pc ≡ x.graph.from → StaysInSection x.graph before →
    Lies x.graph i.pc → KeepsBounds x.graph.loops i before → IsPathTo x i before
walked set x i [] earlier l here starts on lies keeps = record {
  steps = [];
  walk = record {
    own =
        linked-own set (Reachable x.graph) (EdgeOf x.graph) x.positions i earlier l
        (let at : i.cycle ≤ i.cycle = omega arith in here i.cycle at at);
    leads = (starts, refl);
    keeps = tt;
  };
  order = omega arith;
  long = omega arith;
  counters = λ j. refl;
  reached = subst (λ u. Reachable x.graph u) (sym starts) first;
}
walked set x i (h ∷ before) earlier l here starts on lies keeps =
    go (walked set x h before earlier l.0
    (until-last set x i h before earlier l here) starts on.0 on.1 keeps.0)
  where
    go : IsPathTo x h before → IsPathTo x i (h ∷ before)
    go w =
        let f : Follows x h i = l.3 (from-last set x i h before here w) w.reached on.2 in
        let is = is-step x h i f in
        record {
          steps = record {
            from = h.pc;
            at = h.cycle % length x.positions.frame;
            lag = f.edge.lag;
            cost = i.cycle - h.cycle;
            to = i.pc;
            position = i.cycle % length x.positions.frame;
          } ∷ w.steps;
          walk = record {
            own = w.walk.own;
            leads = (w.walk.leads, is, lies, refl, refl);
            keeps = (
              w.walk.keeps,
              λ j known. subst (λ n. counter_after h.pc i.pc j n ≤ j.limit) (sym (w.counters j))
                  (keeps.1 j known),
            );
          };
          order = omega (arith, w.order, f.order);
          long = omega (arith, w.order, f.order, w.long);
          counters = λ j. ap (counter_after h.pc i.pc j) (w.counters j);
          reached = next (record { to = i.pc; lag = f.edge.lag }) w.reached is.edge lies;
        }

lies-or : (g : Graph) (u : ℕ) → Lies g u ⊎ (Lies g u → ⊥)
lies-or g u =
    go (let z : (g.from ≤ u) ⊎ (u < g.from) = grind arith in z)
    (let z : (u < g.to) ⊎ (g.to ≤ u) = grind arith in z)
  where
    go : (g.from ≤ u) ⊎ (u < g.from) → (u < g.to) ⊎ (g.to ≤ u) → Lies g u ⊎ (Lies g u → ⊥)
    go (inl a) (inl b) = inl (record { low = a; high = b })
    go (inl a) (inr b) = inr (λ l. omega (arith, l.high))
    go (inr a) b = inr (λ l. omega (arith, l.low))

bounded : (set : ℕ → Type 0) (x : Course) (b : ℕ) → ((c : ℕ) → CostsOf x c → c ≤ b) →
    (last : Issued) (before earlier : List Issued) → FollowIn set x (last ∷ (before ++ earlier)) →
    Throughout set (first_of last before).cycle last.cycle →
    (first_of last before).pc ≡ x.graph.from → StaysInSection x.graph before →
    KeepsBounds x.graph.loops last before → Lies x.graph last.pc ⊎ (Lies x.graph last.pc → ⊥) →
    last.cycle - (first_of last before).cycle ≤ b
bounded set x b most last before earlier l here starts on keeps (inl lies) =
    let w = walked set x last before earlier l here starts on lies keeps in
    subst (λ c. c ≤ b) w.long (most (cost w.steps) (ends w.steps w.walk))
bounded set x b most last [] earlier l here starts on keeps (inr out) = omega arith
bounded set x b most last (h ∷ before) earlier l here starts on keeps (inr out) =
    let w = walked set x h before earlier l.0
    (until-last set x last h before earlier l here) starts on.0 on.1 keeps.0 in
    let f : Follows x h last = l.3 (from-last set x last h before here w) w.reached on.2 in
    let s : Step = record {
      from = h.pc;
      at = h.cycle % length x.positions.frame;
      lag = f.edge.lag;
      cost = last.cycle - h.cycle;
      to = last.pc;
      position = last.cycle % length x.positions.frame;
    } in
    let le : cost w.steps + (last.cycle - h.cycle) ≤ b = most
    (cost w.steps + (last.cycle - h.cycle)) (leaves w.steps s w.walk (is-step x h last f) out) in
    omega (arith, w.order, f.order, w.long, le)

pub visits_in_settings : IssuesFollowEdgesInSettings → VisitsAreBoundedInSettings
visits_in_settings law t slots thread b s n is most words last before here v keeps =
    let x : Course = course t slots thread in
    let links =
    subst (λ l. FollowIn (IsSet s slots thread) x l) v.among (law t slots thread s n is words) in
    bounded (IsSet s slots thread) x b most last before v.earlier
    (linked-after (IsSet s slots thread) (Reachable x.graph) (EdgeOf x.graph) x.positions v.later
    (last ∷ (before ++ v.earlier)) links) here v.starts v.goes_on keeps (lies-or (graph t) last.pc)
