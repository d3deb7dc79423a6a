-- The paths of one function are the paths of its net, in which a call is one arc.
use Rattle.std.proofs.Common.{◌≡◌, ℕ, ◌+◌, ◌<◌, ◌≤◌, ◌⊎◌, refl, arith, inl, inr, ap, subst, sym}
use Rattle.std.proofs.Common.{Option, Some, None, Contains, List, [], ◌∷◌, slice_index_or, ◌≢◌}
use Rattle.fp_setup.specs.declared.loop_list.LoopSetup.{LoopSetup}
use Rattle.region_tree.specs.Edges.{edges_of}
use Rattle.region_tree.specs.Graph.{Edge, Lies, Reachable, edge_list}
use Rattle.region_tree.specs.Graph.Reachable.{first, next}
use Rattle.region_tree.specs.Walk.{IsNextTurn, counter_after}
use Rattle.bound_calc.specs.Context.{IsNested, IsScope, May, Walk}
use Rattle.bound_calc.specs.Section.{IsAccepted, net, whole}
use Rattle.bound_calc.proofs.Counters.{counted-in, counted-other, kept}
use Rattle.bound_calc.proofs.Embed.{is_or_not}
use Rattle.call_bounds.specs.declared.routines.Routine.{Routine}
use Rattle.call_bounds.specs.Calls.{Calls, Function, callee, inner_edges}
use Rattle.call_bounds.specs.Calls.{function, plain_edges, plain_unless}
use Rattle.call_bounds.specs.CallWalk.{Route}
use Rattle.call_bounds.specs.Field.{field, moves}
use Rattle.call_bounds.specs.Runs.{Run}
use Rattle.call_bounds.proofs.Functions.{call-edge, plain-edge}

moves-own : (x : Route) (o : Option Routine) (lag p d q : ℕ) → moves x o lag p d q →
    (field x None).own q
moves-own x None lag p d q m = m.own
moves-own x (Some t) lag p d q m = m.second.turn.own

pub field-nested : (x : Route) (a : Function) → IsAccepted (function x.calls a) →
    IsNested (net (field x a))
field-nested x a is = record {
  lands = λ {u} {p} {d} {v} {q} arc. moves-own x (callee x.calls u) arc.lag p d q arc.move;
  ordered = λ j h. (is.ordered j h).1;
  nested = is.nested;
  entered =
      λ {u} {p} {d} {v} {q} arc j h held.
      is.entered u (record { to = v; lag = arc.lag }) j arc.reached arc.edge h held;
  back =
      λ {u} {p} {d} {v} {q} arc le.
      is.back u (record { to = v; lag = arc.lag }) arc.reached arc.edge arc.lies le;
}

pub field-function : (x : Route) (a : Function) → IsAccepted (function x.calls a) →
    IsScope (net (field x a)) (whole (field x a))
field-function x a is = record {
  known = λ j h. h;
  within = λ j h. let o = is.ordered j h in (o.0, omega arith);
  closed = λ j i h h' inside. h';
}

-- a path of the function, as one of its net
pub record Netted (x : Route) (a : Function) (p u q c : ℕ) (k : LoopSetup → ℕ) : Type 0 where
  pub steps : ℕ
  pub walk : Walk (net (field x a)) (whole (field x a)) p steps u q c k
  pub word : Reachable (function x.calls a) u

pub plain-move : (x : Route) (o : Option Routine) (edges : List Edge) (e : Edge) {p d q : ℕ} →
    Contains (plain_unless o edges) e → IsNextTurn x.positions e.lag p d q → moves x o e.lag p d q
plain-move x None edges e h t = t
plain-move x (Some r) edges e h t = absurd (omega (arith, h.1))

may-go : (x : Route) (a : Function) (u : ℕ) (e : Edge) → IsAccepted (function x.calls a) →
    Reachable (function x.calls a) u → Contains ((function x.calls a).edges u) e →
    Lies (function x.calls a) e.to → May (whole (field x a)) u e.to
may-go x a u e is word edge lies = go (let z : (u < e.to) ⊎ (e.to ≤ u) = grind arith in z)
  where
    go : (u < e.to) ⊎ (e.to ≤ u) → May (whole (field x a)) u e.to
    go (inl up) = inl up
    go (inr down) = let b = is.back u e word edge lies down in inr b

step-high : (x : Route) (a : Function) (v : ℕ) → Lies (function x.calls a) v →
    v ≤ (whole (field x a)).high
step-high x a v lies = let h = lies.high in omega arith

pub netted : (x : Route) {a : Function} {p u q c : ℕ} {k : LoopSetup → ℕ} →
    IsAccepted (function x.calls a) → Run x a p u q c k → Netted x a p u q c k
netted x {a} {p} is (Run.start o) = record { steps = 0; walk = Walk.start o; word = first }
netted x {a} {p} is
    (Run.along {u = u} {q = q} {c = c} {d = d} {r = r} {k = k} e run edge lies turn bounds) =
    go (netted x is run)
  where
    go : Netted x a p u q c k → Netted x a p e.to r (c + d) (λ j. counter_after u e.to j (k j))
    go y = record {
      steps = y.steps + 1;
      walk = Walk.step y.walk (record {
        lag = e.lag;
        edge = plain-edge x.calls a u e edge;
        move =
            plain-move x (callee x.calls u) (edge_list (edges_of (x.calls.word u) u)) e edge turn;
        reached = y.word;
        lies = lies;
      })
          (step-high x a e.to lies)
          (may-go x a u e is y.word (plain-edge x.calls a u e edge) lies) bounds;
      word = next e y.word (plain-edge x.calls a u e edge) lies;
    }
netted x {a} {p} is (Run.through {u = u} {q = q} {c = c} {d = d} {k = k} {t = t} {m = m}
    {w = w} {n = n} {i = i} {f = f} {r = r} {l = l} run to lies turn inner back turn2) =
    go (netted x is run)
  where
    edge : Edge
    edge = record { to = u + 4; lag = 3 }

    go : Netted x a p u q c k →
        Netted x a p (u + 4) r (c + (d + (i + f))) (λ j. counter_after u (u + 4) j (k j))
    go y = record {
      steps = y.steps + 1;
      walk = Walk.step y.walk (record {
        lag = 3;
        edge = call-edge x.calls a u t to;
        move = subst (λ o. moves x o 3 q (d + (i + f)) r) (sym to)
            (record {
              at = m;
              one = d;
              two = i + f;
              first = turn;
              second = record {
                word = w;
                at = n;
                one = i;
                two = f;
                counters = l;
                run = inner;
                back = back;
                turn = turn2;
                cost = refl;
              };
              cost = refl;
            });
        reached = y.word;
        lies = lies;
      })
          (step-high x a (u + 4) lies) (inl (omega arith))
          (λ j h. bound j (kept y.walk j h) (is_or_not (u + 4) j.head));
      word = next edge y.word (call-edge x.calls a u t to) lies;
    }
      where
        bound : (j : LoopSetup) → k j ≤ j.limit → (u + 4 ≡ j.head) ⊎ (u + 4 ≢ j.head) →
            counter_after u (u + 4) j (k j) ≤ j.limit
        bound j le (inl e) = let z = counted-in u (u + 4) j (k j) e (omega arith) in omega arith
        bound j le (inr other) = let z = counted-other u (u + 4) j (k j) other in omega arith

-- the one edge of a call
pub call-is : (x : Calls) (a : Function) (u : ℕ) (t : Routine) (e : Edge) → callee x u ≡ Some t →
    Contains ((function x a).edges u) e → e.to ≡ u + 4
call-is x a u t e to h = go (callee x u) to h
  where
    go : (o : Option Routine) → o ≡ Some t →
        Contains (inner_edges o u (edge_list (edges_of (x.word u) u))) e → e.to ≡ u + 4
    go None to h = cc
    go (Some r) to h =
        let z : h.0 ≡ 0 = omega (arith, h.1) in
        let same : record { to = u + 4; lag = 3 } ≡ e =
        subst (λ i. slice_index_or (record { to = u + 4; lag = 3 } ∷ []) i e ≡ e) z h.2 in
        sym (ap (λ (y : Edge). y.to) same)

-- a step of the net is a step of the function
stepped : (x : Route) (a : Function) (d lag : ℕ) {p u q c v r : ℕ} {k : LoopSetup → ℕ}
    (o : Option Routine) → callee x.calls u ≡ o → Run x a p u q c k →
    Contains ((function x.calls a).edges u) (record { to = v; lag = lag }) →
    moves x o lag q d r → Lies (function x.calls a) v →
    ((j : LoopSetup) → Contains (function x.calls a).loops j → counter_after u v j (k j) ≤ j.limit)
    →
    Run x a p v r (c + d) (λ j. counter_after u v j (k j))
stepped x a d lag {p} {u} {q} {c} {v} {r} {k} None e run edge move lies bounds =
    Run.along (record { to = v; lag = lag }) run plain_one lies move bounds
  where
    plain_one : Contains (plain_edges x.calls u) (record { to = v; lag = lag })
    plain_one =
        subst (λ o. Contains (plain_unless o (edge_list (edges_of (x.calls.word u) u)))
        (record { to = v; lag = lag })) (sym e)
        (subst (λ o. Contains (inner_edges o u (edge_list (edges_of (x.calls.word u) u)))
        (record { to = v; lag = lag })) e edge)
stepped x a d lag {p} {u} {q} {c} {v} {r} {k} (Some t) e run edge move lies bounds = back (sym to)
  where
    to : v ≡ u + 4
    to = call-is x.calls a u t (record { to = v; lag = lag }) e edge

    sums : c + (move.one + (move.second.one + move.second.two)) ≡ c + d
    sums = omega (arith, move.cost, move.second.cost)

    through : Run x a p (u + 4) r (c + (move.one + (move.second.one + move.second.two)))
        (λ j. counter_after u (u + 4) j (k j))
    through =
        Run.through run e (subst (λ w. Lies (function x.calls a) w) to lies) move.first
        move.second.run
        move.second.back move.second.turn

    back : u + 4 ≡ v → Run x a p v r (c + d) (λ j. counter_after u v j (k j))
    back same =
        subst (λ w. Run x a p w r (c + d) (λ j. counter_after u w j (k j))) same
        (subst (λ n. Run x a p (u + 4) r n (λ j. counter_after u (u + 4) j (k j))) sums through)

pub run_of : (x : Route) {a : Function} {p n u q c : ℕ} {k : LoopSetup → ℕ} →
    Walk (net (field x a)) (whole (field x a)) p n u q c k → Run x a p u q c k
run_of x (Walk.start o) = Run.start o
run_of x {a} (Walk.step {u = u} {d = d} w arc high may bounds) =
    stepped x a d arc.lag (callee x.calls u) refl (run_of x w) arc.edge arc.move arc.lies bounds
