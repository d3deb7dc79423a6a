-- The costs of leaving the section, word by word.
use Rattle.std.proofs.Common.{◌≡◌, ℕ, ◌+◌, ◌*◌, ◌<◌, ◌≤◌, ◌⊎◌, ◌∙◌, refl, arith, inl, inr, ap, sym}
use Rattle.std.proofs.Common.{subst, min, Option, Some, None, List, Bool, true, false, Contains}
use Rattle.std.proofs.lemmas.List.Elements.{Contains-append_left, Contains-append_right}
use Rattle.std.proofs.lemmas.List.Elements.{Contains-append_cases}
use Rattle.fp_setup.specs.declared.loop_list.LoopSetup.{LoopSetup}
use Rattle.region_tree.specs.Edges.{edges_of}
use Rattle.region_tree.specs.Graph.{Edge, Lies, Reachable, edge_list, edge_to}
use Rattle.region_tree.specs.Tree.{IsSection, Tree, graph}
use Rattle.region_tree.specs.Walk.{IsOwn}
use Rattle.region_tree.specs.declared.edges.Edges.{Edges as EdgesOf}
use Rattle.region_tree.proofs.EdgeLaws.{edge-is, is-edge}
use Rattle.bound_calc.specs.Best.{Costs, Either, In, Then, ceiling}
use Rattle.bound_calc.specs.Tops.{IsTop}
use Rattle.bound_calc.specs.Propagation.{CostsOn, edges_at, leaves, matrix_at, move_costs, index}
use Rattle.bound_calc.specs.declared.matrix.Matrix.{Matrix}
use Rattle.bound_calc.proofs.MostLaws.{leaves-not, not-leaves}
use Rattle.call_bounds.specs.declared.routines.Routine.{Routine}
use Rattle.call_bounds.specs.Calls.{Calls, Function, callee, inner_edges}
use Rattle.call_bounds.specs.Calls.{function, plain_edges, plain_unless, range}
use Rattle.call_bounds.specs.CallWalk.{Route}
use Rattle.call_bounds.specs.Field.{moves}
use Rattle.call_bounds.specs.Patched.{function_tree}
use Rattle.call_bounds.specs.Runs.{Deep, Leaving, Nested, Run, Through}
use Rattle.call_bounds.specs.Summaries.{Any, IsMost, ExitCostsAt, When}
use Rattle.call_bounds.proofs.AnyLaws.{Alike}
use Rattle.call_bounds.proofs.FunctionLaws.{Gone, RunAt, count, run-at}
use Rattle.call_bounds.proofs.Functions.{call-edge, plain-edge}
use Rattle.call_bounds.proofs.PatchLaws.{agrees}
use Rattle.call_bounds.proofs.RunNet.{call-is, plain-move}
use Rattle.call_bounds.proofs.WordCosts.{IsEdgeOf, covered, found}

-- a path of the section and an edge of its graph out of it
record Leaves (x : Route) (p c q : ℕ) : Type 0 where
  word : ℕ
  at : ℕ
  one : ℕ
  two : ℕ
  counters : LoopSetup → ℕ
  by : Edge
  run : Run x None p word at one counters
  edge : Contains ((function x.calls None).edges word) by
  out : Lies (function x.calls None) by.to → ⊥
  move : moves x (callee x.calls word) by.lag at two q
  cost : c ≡ one + two

to_leaves : (x : Route) {p c q : ℕ} → Leaving x p c q → Leaves x p c q
to_leaves x (Leaving.leaves {u = u} {q = q} {c = c} {d = d} {r = r} {k = k} e run edge out turn) =
    record {
      word = u;
      at = q;
      one = c;
      two = d;
      counters = k;
      by = e;
      run = run;
      edge = plain-edge x.calls None u e edge;
      out = out;
      move = plain-move x (callee x.calls u) (edge_list (edges_of (x.calls.word u) u)) e edge turn;
      cost = refl;
    }
to_leaves x (Leaving.comes_out {u = u} {q = q} {c = c} {d = d} {m = m} {i = i} {r = r} {k = k}
    {t = t} run to out turn z) = record {
      word = u;
      at = q;
      one = c;
      two = d + i;
      counters = k;
      by = record { to = u + 4; lag = 3 };
      run = run;
      edge = call-edge x.calls None u t to;
      out = out;
      move =
          subst (λ o. moves x o 3 q (d + i) r) (sym to)
          (record { at = m; one = d; two = i; first = turn; second = z; cost = refl });
      cost = refl;
    }

from_leaves : (x : Route) {p c q : ℕ} → Leaves x p c q → Leaving x p c q
from_leaves x {p} {c} {q} y = go (callee x.calls y.word) refl y.edge y.move
  where
    go : (o : Option Routine) → callee x.calls y.word ≡ o →
        Contains ((function x.calls None).edges y.word) y.by → moves x o y.by.lag y.at y.two q →
        Leaving x p c q
    go None to edge move =
        subst (λ c. Leaving x p c q) (sym y.cost) (Leaving.leaves y.by y.run plain_one y.out move)
      where
        plain_one : Contains (plain_edges x.calls y.word) y.by
        plain_one =
            subst (λ o.
            Contains (plain_unless o (edge_list (edges_of (x.calls.word y.word) y.word))) y.by)
            (sym to) (subst (λ o. Contains (inner_edges o y.word
            (edge_list (edges_of (x.calls.word y.word) y.word))) y.by) to edge)
    go (Some t) to edge move =
        subst (λ c. Leaving x p c q) (omega (arith, y.cost, move.cost))
        (Leaving.comes_out y.run to (λ l. y.out (subst (λ v. Lies (function x.calls None) v)
        (sym (call-is x.calls None y.word t y.by to edge)) l)) move.first move.second)

-- the edges of the word at an index
edges-same : (x : Calls) (k : ℕ) → IsSection (range x None) → k < count (range x None) →
    edge_list (edges_at (function_tree x None) k) ≡ (function x None).edges ((range x None).from
    + 4 * k)
edges-same x k is lt =
    (agrees x None is).same ((range x None).from + 4 * k)
    (let a = is.from_aligned in omega arith) (omega arith)
    (let a = is.from_aligned in let b = is.to_aligned in let c = is.order in omega arith)

when-in : (b : Bool) (f : Costs) {p c q : ℕ} → b ≡ true → f p c q → When b f p c q
when-in true f e h = h
when-in false f e h = cc

when-out : (b : Bool) (f : Costs) {p c q : ℕ} → When b f p c q → (b ≡ true) × f p c q
when-out true f h = (refl, h)
when-out false f h = absurd h

sum-covers : (a b c one two n : ℕ) → min a n ≤ one → min b n ≤ two → c ≡ a + b → min c n ≤ one + two
sum-covers a b c one two n h1 h2 is = omega arith

sum-among : (a b c one two n : ℕ) → min one n ≡ min a n → min two n ≡ min b n → c ≡ one + two →
    min c n ≡ min (a + b) n
sum-among a b c one two n h1 h2 is = omega arith

-- costs at a word and of an edge out of the section are costs of paths that leave it
pub leaving-alike : (x : Route) (at : List Matrix) (word_costs : CostsOn) → Gone x None at →
    ((u : ℕ) → Reachable (function x.calls None) u →
    IsEdgeOf x (Through x) (callee x.calls u) (word_costs (index (function_tree x.calls None) u))) →
    Alike (Leaving x)
    (Any (ExitCostsAt (function_tree x.calls None) x.positions word_costs at) (count (range
    x.calls None)))
leaving-alike x at word_costs g are = record {
  covers = λ p c q h. covers p c q (to_leaves x h);
  among = λ p e q h. among p e q h.0 h.1 h.2;
}
  where
    t : Tree
    t = function_tree x.calls None

    start : ℕ
    start = (range x.calls None).from

    is : IsSection (range x.calls None)
    is = g.section

    covers : (p c q : ℕ) → Leaves x p c q →
        (e : ℕ) × Any (ExitCostsAt t x.positions word_costs at) (count (range x.calls None)) p e q
        × (min c ceiling ≤ e)
    covers p c q y = (
      r.cost + d.0,
      (
        k,
        r.index.below,
        out (Contains-append_cases (edge_to e.next e.next_lag) (edge_to e.jump 3) y.by known),
      ),
      sum-covers y.one y.two c r.cost d.0 ceiling r.covers d.2 y.cost,
    )
      where
        r : RunAt x None at y.word p y.one y.at
        r = run-at x None at g (record { counters = y.counters; run = y.run })

        k : ℕ
        k = r.index.at

        e : EdgesOf
        e = edges_at t k

        d : (e : ℕ) × move_costs x.positions (word_costs k) y.by.lag y.at e q ×
            (min y.two ceiling ≤ e)
        d =
            subst (λ n. (e : ℕ) × move_costs x.positions (word_costs n) y.by.lag y.at e q
            × (min y.two ceiling ≤ e)) r.index.is (covered x (callee x.calls y.word)
            (word_costs (index t y.word)) y.by.lag y.at y.two q (are y.word r.word) y.move)

        known : Contains (edge_list e) y.by
        known =
            subst (λ l. Contains l y.by) (sym (edges-same x.calls k is r.index.below))
            (subst (λ u. Contains ((function x.calls None).edges u) y.by)
            (sym r.index.address) y.edge)

        far : Lies (graph t) y.by.to → ⊥
        far l = y.out (record { low = l.low; high = l.high })

        there : (target : Option ℕ) (lag : ℕ) → Contains (edge_to target lag) y.by →
            When (leaves t target)
            (Then (In (matrix_at at k)) (move_costs x.positions (word_costs k) lag)) p
            (r.cost + d.0) q
        there target lag h =
            let i = edge-is target lag y.by h in
            when-in (leaves t target)
            (Then (In (matrix_at at k)) (move_costs x.positions (word_costs k) lag))
            (ap (leaves t) i.0 ∙ not-leaves t y.by.to far) (record {
              at = y.at;
              one = r.cost;
              two = d.0;
              first = r.is;
              second = subst (λ lag. move_costs x.positions (word_costs k) lag y.at d.0 q) i.1 d.1;
              cost = refl;
            })

        out : Contains (edge_to e.next e.next_lag) y.by ⊎ Contains (edge_to e.jump 3) y.by →
            ExitCostsAt t x.positions word_costs at k p (r.cost + d.0) q
        out (inl h) = inl (there e.next e.next_lag h)
        out (inr h) = inr (there e.jump 3 h)

    among : (p e q k : ℕ) → k < count (range x.calls None) →
        ExitCostsAt t x.positions word_costs at k p e q →
        (c : ℕ) × Leaving x p c q × (min e ceiling ≡ min c ceiling)
    among p e q k lt h =
        elim h [ inl y ↦ from b.next b.next_lag known_next y | inr y ↦ from b.jump 3 known_jump y ]
      where
        b : EdgesOf
        b = edges_at t k

        known_next : (a : Edge) → Contains (edge_to b.next b.next_lag) a → Contains (edge_list b) a
        known_next a h = Contains-append_left (edge_to b.next b.next_lag) (edge_to b.jump 3) a h

        known_jump : (a : Edge) → Contains (edge_to b.jump 3) a → Contains (edge_list b) a
        known_jump a h = Contains-append_right (edge_to b.next b.next_lag) (edge_to b.jump 3) a h

        by_edge : (v lag : ℕ) → Contains (edge_list b) (record { to = v; lag = lag }) →
            (Lies (graph t) v → ⊥) →
            Then (In (matrix_at at k)) (move_costs x.positions (word_costs k) lag) p e q →
            (c : ℕ) × Leaving x p c q × (min e ceiling ≡ min c ceiling)
        by_edge v lag edge far y =
            let one = (g.best k lt).1 p y.one y.at y.first in
            let r = run-at x None at g one.1 in
            let same : r.index.at ≡ k = (let a = r.index.address in omega arith) in
            let w = subst (λ i. IsEdgeOf x (Through x) (callee x.calls (start + 4 * k))
            (word_costs i))
            (r.index.is ∙ same) (are (start + 4 * k) r.word) in
            let two =
            found x (callee x.calls (start + 4 * k)) (word_costs k) lag y.at y.two q w y.second in (
              one.0 + two.0,
              from_leaves x (record {
                word = start + 4 * k;
                at = y.at;
                one = one.0;
                two = two.0;
                counters = one.1.counters;
                by = record { to = v; lag = lag };
                run = one.1.run;
                edge =
                    subst (λ l. Contains l (record { to = v; lag = lag }))
                    (edges-same x.calls k is lt) edge;
                out = λ l. far (record { low = l.low; high = l.high });
                move = two.1;
                cost = refl;
              }),
              sum-among one.0 two.0 e y.one y.two ceiling one.2 two.2 y.cost,
            )

        from : (target : Option ℕ) (lag : ℕ) →
            ((a : Edge) → Contains (edge_to target lag) a → Contains (edge_list b) a) →
            When (leaves t target)
            (Then (In (matrix_at at k)) (move_costs x.positions (word_costs k) lag)) p e q →
            (c : ℕ) × Leaving x p c q × (min e ceiling ≡ min c ceiling)
        from None lag known h = absurd h
        from (Some v) lag known h =
            let y = when-out (leaves t (Some v))
            (Then (In (matrix_at at k)) (move_costs x.positions (word_costs k) lag)) h in
            by_edge v lag (known (record { to = v; lag = lag }) (is-edge (Some v) lag v refl))
            (leaves-not t v y.0) y.1

-- paths begin at own positions
run-own : (x : Route) {a : Function} {p u q c : ℕ} {k : LoopSetup → ℕ} → Run x a p u q c k →
    IsOwn x.positions p
run-own x (Run.start o) = o
run-own x (Run.along e run edge lies turn bounds) = run-own x run
run-own x (Run.through run to lies turn inner back turn2) = run-own x run

costs-own : (x : Route) {p c q : ℕ} → Deep x None p c q ⊎ Leaving x p c q → IsOwn x.positions p
costs-own x (inl (Deep.ends run)) = run-own x run
costs-own x (inl (Deep.enters run to turn deep)) = run-own x run
costs-own x (inr (Leaving.leaves e run edge out turn)) = run-own x run
costs-own x (inr (Leaving.comes_out run to out turn z)) = run-own x run

-- the largest cost of paths that end in the section or in a function, and of those that leave it
pub most-is : (x : Route) (most : ℕ) → (p : ℕ) × IsOwn x.positions p →
    IsTop (Either (Deep x None) (Leaving x)) 0 most → IsMost x most
most-is x most slot t = record { covers = λ c n. t.upper n.at c n.end n.costs; among = among t.met }
  where
    among : (most ≡ 0) ⊎ ((p : ℕ) × (c : ℕ) × (q : ℕ) × Either (Deep x None) (Leaving x) p c q
        × (min most ceiling ≡ min c ceiling)) →
        (c : ℕ) × Nested x c × (min most ceiling ≡ min c ceiling)
    among (inl none) = (
      0,
      record {
        at = slot.0;
        own = slot.1;
        end = slot.0;
        costs = inl (Deep.ends (Run.start slot.1));
      },
      ap (λ n. min n ceiling) none,
    )
    among (inr (p, c, q, y, is)) =
        (c, record { at = p; own = costs-own x y; end = q; costs = y }, is)
