-- Two graphs whose edges agree at each multiple of four among their words. They have the same
-- reachable words, causes of refusal and paths.
use Rattle.std.proofs.Common.{◌≡◌, ℕ, ◌+◌, ◌%◌, ◌<◌, ◌≤◌, inl, inr}
use Rattle.std.proofs.Common.{arith, sym, subst, ◌∙◌, List, Contains}
use Rattle.fp_setup.specs.declared.loop_list.LoopSetup.{LoopSetup}
use Rattle.region_tree.specs.Graph.{Edge, Graph, Reachable}
use Rattle.region_tree.specs.Graph.Reachable.{first, next}
use Rattle.region_tree.specs.Refusals.{IsAllowed}
use Rattle.region_tree.specs.Nesting.{NestingAt}
use Rattle.region_tree.specs.Walk.{counter_after}
use Rattle.region_tree.specs.declared.edges.Stop.{Stop}
use Rattle.bound_calc.specs.Best.{Costs}
use Rattle.bound_calc.specs.Context.{Scope, Walk}
use Rattle.bound_calc.specs.Section.{net}

abbrev pub graph_of : ℕ → ℕ → List LoopSetup → (ℕ → List Edge) → (ℕ → Stop) → Graph
graph_of from to loops edges stop =
    record { from = from; to = to; edges = edges; stop = stop; loops = loops }

pub record Agree (from to : ℕ) (edges edges' : ℕ → List Edge) (stop stop' : ℕ → Stop) : Type 0 where
  pub start : from % 4 ≡ 0
  pub order : from < to
  pub same : (u : ℕ) → u % 4 ≡ 0 → from ≤ u → u < to → edges u ≡ edges' u
  pub stops : (u : ℕ) → u % 4 ≡ 0 → from ≤ u → u < to → stop u ≡ stop' u
  pub aligned : (u : ℕ) (e : Edge) → u % 4 ≡ 0 → Contains (edges u) e → e.to % 4 ≡ 0

-- a reachable word of the one is one of the other, a multiple of four, and lies in the section
pub reach : {from to : ℕ} {loops : List LoopSetup} {edges edges' : ℕ → List Edge}
    {stop stop' : ℕ → Stop} → Agree from to edges edges' stop stop' →
    {u : ℕ} → Reachable (graph_of from to loops edges stop) u →
    Reachable (graph_of from to loops edges' stop') u × (u % 4 ≡ 0) × (from ≤ u) × (u < to)
reach a first = (first, a.start, omega arith, a.order)
reach {from} {to} {loops} {edges} {edges'} {stop} {stop'} a (next {u = v} e r edge lies) =
    go (reach a r)
  where
    go : Reachable (graph_of from to loops edges' stop') v × (v % 4 ≡ 0) × (from ≤ v) × (v < to) →
        Reachable (graph_of from to loops edges' stop') e.to × (e.to % 4 ≡ 0)
        × (from ≤ e.to) × (e.to < to)
    go z = (
      next e z.0 (subst (λ l. Contains l e) (a.same v z.1 z.2 z.3) edge)
          (record { low = lies.low; high = lies.high }),
      a.aligned v e z.1 edge,
      lies.low,
      lies.high,
    )

pub back : {from to : ℕ} {edges edges' : ℕ → List Edge} {stop stop' : ℕ → Stop}
    (loops : List LoopSetup) → Agree from to edges edges' stop stop' →
    {u : ℕ} → Reachable (graph_of from to loops edges' stop') u →
    Reachable (graph_of from to loops edges stop) u × (u % 4 ≡ 0) × (from ≤ u) × (u < to)
back loops a first = (first, a.start, omega arith, a.order)
back {from} {to} {edges} {edges'} {stop} {stop'} loops a (next {u = v} e r edge lies) =
    go (back loops a r)
  where
    go : Reachable (graph_of from to loops edges stop) v × (v % 4 ≡ 0) × (from ≤ v) × (v < to) →
        Reachable (graph_of from to loops edges stop) e.to × (e.to % 4 ≡ 0)
        × (from ≤ e.to) × (e.to < to)
    go z =
        let here = subst (λ l. Contains l e) (sym (a.same v z.1 z.2 z.3)) edge in (
          next e z.0 here (record { low = lies.low; high = lies.high }),
          a.aligned v e z.1 here,
          lies.low,
          lies.high,
        )

-- the causes for a refusal of the second are causes for one of the first
pub rows : {from to : ℕ} {loops : List LoopSetup} {edges edges' : ℕ → List Edge}
    {stop stop' : ℕ → Stop} → Agree from to edges edges' stop stop' →
    IsAllowed (graph_of from to loops edges stop) → IsAllowed (graph_of from to loops edges' stop')
rows {from} {to} {loops} {edges} {edges'} {stop} {stop'} a is = record {
  nesting = λ u h. is.nesting u (nesting u h);
  indirect = λ u h. let z = back loops a h.0 in is.indirect u (z.0, a.stops u z.1 z.2 z.3 ∙ h.1);
  timed = λ u h. let z = back loops a h.0 in is.timed u (z.0, a.stops u z.1 z.2 z.3 ∙ h.1);
  unbounded = λ u h. let z = back loops a h.reached in is.unbounded u (record {
    by = h.by;
    reached = z.0;
    edge = subst (λ l. Contains l h.by) (sym (a.same u z.1 z.2 z.3)) h.edge;
    inside = record { low = h.inside.low; high = h.inside.high };
    down = h.down;
    unbounded = h.unbounded;
  });
}
  where
    nesting : (u : ℕ) → NestingAt (graph_of from to loops edges' stop') u →
        NestingAt (graph_of from to loops edges stop) u
    nesting u (inl c) = inl c
    nesting u (inr (inl d)) = inr (inl d)
    nesting u (inr (inr h)) = let z = back loops a h.reached in inr (inr (record {
      entered = h.entered;
      known = h.known;
      from = h.from;
      by = h.by;
      reached = z.0;
      edge = subst (λ l. Contains l h.by) (sym (a.same h.from z.1 z.2 z.3)) h.edge;
      inner = h.inner;
      outer = h.outer;
      other = h.other;
      address = h.address;
    }))

-- the paths of the first are those of the second
pub walks : {from to : ℕ} {loops : List LoopSetup} {edges edges' : ℕ → List Edge}
    {stop stop' : ℕ → Stop} {own : ℕ → Type 0} {move : ℕ → ℕ → Costs} {s : Scope}
    {p n v q c : ℕ} {k : LoopSetup → ℕ} → Agree from to edges edges' stop stop' →
    Walk (net (record { graph = graph_of from to loops edges stop; own = own; move = move }))
    s p n v q c k →
    Walk (net (record { graph = graph_of from to loops edges' stop'; own = own; move = move })) s p
    n v q c k
walks a (Walk.start o) = Walk.start o
walks {from} {to} {loops} {edges} {edges'} {stop} {stop'} {own} {move} {s}
    {p} a (Walk.step {n} {u} {q} {c} {d} {v} {r} {k} w arc high may bounds) =
    go (walks a w) (reach a arc.reached)
  where
    go : Walk (net (record { graph = graph_of from to loops edges' stop'; own = own; move = move }))
        s p n u q c k →
        Reachable (graph_of from to loops edges' stop') u × (u % 4 ≡ 0) × (from ≤ u) × (u < to) →
        Walk (net (record { graph = graph_of from to loops edges' stop'; own = own; move = move }))
        s p (n + 1) v r (c + d) (λ j. counter_after u v j (k j))
    go w' z = Walk.step w' (record {
      lag = arc.lag;
      edge =
          subst (λ l. Contains l (record { to = v; lag = arc.lag }))
          (a.same u z.1 z.2 z.3) arc.edge;
      move = arc.move;
      reached = z.0;
      lies = record { low = arc.lies.low; high = arc.lies.high };
    }) high may bounds
