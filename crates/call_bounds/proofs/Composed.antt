-- A pass over a patched function gives the best costs of the function's paths.
use Rattle.std.proofs.Common.{◌≡◌, ℕ, ◌+◌, ◌%◌, arith, ap, sym, subst, Option}
use Rattle.std.proofs.Common.{Some, None, [], ◌∷◌, slice_index_or, Contains}
use Rattle.fp_setup.specs.declared.loop_list.LoopSetup.{LoopSetup}
use Rattle.region_tree.proofs.EdgeLaws.{edge-aligned}
use Rattle.region_tree.specs.Edges.{edges_of}
use Rattle.region_tree.specs.Graph.{Edge, Reachable, edge_list}
use Rattle.region_tree.specs.Tree.{IsSection, graph}
use Rattle.bound_calc.proofs.BestLaws.{best-same}
use Rattle.bound_calc.specs.Best.{Entries, IsBest}
use Rattle.bound_calc.specs.Propagation.{CostsOn, over, index}
use Rattle.bound_calc.specs.Section.{IsAccepted, net, whole}
use Rattle.bound_calc.specs.PathCosts.{Reaches}
use Rattle.call_bounds.specs.declared.routines.Routine.{Routine}
use Rattle.call_bounds.specs.Calls.{Calls, Function, callee, inner_edges, function, range}
use Rattle.call_bounds.specs.CallWalk.{Route}
use Rattle.call_bounds.specs.Field.{field}
use Rattle.call_bounds.specs.Patched.{function_tree}
use Rattle.call_bounds.specs.Runs.{Run}
use Rattle.call_bounds.proofs.Agree.{Agree, walks}
use Rattle.call_bounds.proofs.PatchLaws.{agrees}
use Rattle.call_bounds.proofs.RunNet.{netted, run_of}
use Rattle.call_bounds.proofs.WordCosts.{IsOwnEdge, word_costs-stand}

-- a path of a function to word v
pub record RunsTo (x : Route) (a : Function) (v p c q : ℕ) : Type 0 where
  pub counters : LoopSetup → ℕ
  pub run : Run x a p v q c counters

onward-aligned : (o : Option Routine) (w u : ℕ) (e : Edge) → u % 4 ≡ 0 →
    Contains (inner_edges o u (edge_list (edges_of w u))) e → e.to % 4 ≡ 0
onward-aligned None w u e h c = edge-aligned w u e h c
onward-aligned (Some t) w u e h c =
    let z : c.0 ≡ 0 = omega (arith, c.1) in
    let same : record { to = u + 4; lag = 3 } ≡ e =
    subst (λ i. slice_index_or (record { to = u + 4; lag = 3 } ∷ []) i e ≡ e) z c.2 in
    let to : u + 4 ≡ e.to = ap (λ (y : Edge). y.to) same in
    omega arith

pub agrees-back : (x : Calls) (a : Function) → IsSection (range x a) →
    Agree (range x a).from (range x a).to (function x a).edges (graph (function_tree x a)).edges
    (function x a).stop (graph (function_tree x a)).stop
agrees-back x a is = let g = agrees x a is in record {
  start = g.start;
  order = g.order;
  same = λ u align low high. sym (g.same u align low high);
  stops = λ u align low high. sym (g.stops u align low high);
  aligned = λ u e align h. onward-aligned (callee x u) (x.word u) u e align h;
}

-- the matrices of a function's calls hold the costs of their routines
abbrev pub HoldsCalls : Route → Function → CostsOn → Type 0
HoldsCalls x a word_costs =
    (u : ℕ) → Reachable (function x.calls a) u →
    IsOwnEdge x (callee x.calls u) (word_costs (index (function_tree x.calls a) u))

pub best-runs : (x : Route) (a : Function) (word_costs : CostsOn) (m : Entries) (v : ℕ) →
    IsSection (range x.calls a) → IsAccepted (function x.calls a) → HoldsCalls x a word_costs →
    IsBest m (Reaches (net (over (function_tree x.calls a) x.positions word_costs))
    (whole (over (function_tree x.calls a) x.positions word_costs)) v) → IsBest m (RunsTo x a v)
best-runs x a word_costs m v is ok are best =
    best-same
    (λ p c q r. record { counters = r.counters; run = run_of x r.walk })
    (λ p c q r. let n = netted x ok r.run in
    record { steps = n.steps; counters = r.counters; walk = n.walk })
    (word_costs-stand x a (λ u. word_costs (index (function_tree x.calls a) u)) (whole (field
    x a)) m v are
    (best-same
    (λ p c q r.
    record { steps = r.steps; counters = r.counters; walk = walks (agrees x.calls a is) r.walk })
    (λ p c q r. record {
      steps = r.steps;
      counters = r.counters;
      walk = walks (agrees-back x.calls a is) r.walk;
    })
    best))
