-- A forward pass holds the best costs at each word.
use Rattle.std.proofs.Common.{◌≡◌, ℕ, ◌+◌, ◌-◌, ◌<◌, ◌≤◌, ◌⊎◌, ◌≢◌}
use Rattle.std.proofs.Common.{refl, arith, inl, inr, ap, subst, Contains}
use Rattle.bound_calc.proofs.BestLaws.{Lands, Within, are-same, best-same, best-then}
use Rattle.bound_calc.proofs.BestLaws.{power-cut, power-join, power-up, same}
use Rattle.bound_calc.proofs.Counters.{kept}
use Rattle.bound_calc.proofs.Heads.{Fresh, Rounded, at_head, enter, from_below, rounds_walk}
use Rattle.bound_calc.specs.Best.{AreBest, Costs, Either, Entries, In, IsBest, Power, Then}
use Rattle.bound_calc.specs.Context.{IsNested, IsScope, Net, Scope, Walk}
use Rattle.bound_calc.specs.Pass.{And, Below, Brings, Comes, Edges, Turns}
use Rattle.bound_calc.specs.Section.{Field, net}
use Rattle.bound_calc.specs.PathCosts.{Enters, Reaches, Round, Rounds}
use Rattle.fp_setup.specs.declared.loop_list.LoopSetup.{LoopSetup}
use Rattle.region_tree.specs.Graph.{Edge, Holds, Lies, Reachable}
use Rattle.bound_calc.specs.Context.Walk.{start, step}
use Rattle.region_tree.specs.Graph.Reachable.{next}

-- a path from a reachable word ends at a reachable word
pub walk-reachable : {x : Field} {s : Scope} {p n v q c : ℕ} {k : LoopSetup → ℕ} →
    Reachable x.graph s.low → Walk (net x) s p n v q c k → Reachable x.graph v
walk-reachable r (start o) = r
walk-reachable r (step {v = v} w arc high may f) =
    next (record { to = v; lag = arc.lag }) arc.reached arc.edge arc.lies

-- all edges from below are arcs of the net
pub comes-enters : {x : Field} {s : Scope} {w : ℕ} → Reachable x.graph s.low → Lies x.graph w →
    Within (Comes x s (Below x w) w) (Enters (net x) s w)
comes-enters r l p c q (inl stays) = inl stays
comes-enters r l p c q (inr b) = inr (record {
  from = b.from;
  at = b.at;
  one = b.one;
  two = b.two;
  walk = b.walk;
  arc = record {
    lag = b.lag;
    edge = b.edge.1;
    move = b.move;
    reached = walk-reachable r b.walk.walk;
    lies = l;
  };
  up = b.up;
  high = b.high;
  cost = b.cost;
})

pub enters-comes : {x : Field} {s : Scope} {w : ℕ} →
    Within (Enters (net x) s w) (Comes x s (Below x w) w)
enters-comes p c q (inl stays) = inl stays
enters-comes p c q (inr b) = inr (record {
  from = b.from;
  at = b.at;
  one = b.one;
  two = b.two;
  lag = b.arc.lag;
  walk = b.walk;
  edge = (b.up, b.arc.edge);
  move = b.arc.move;
  up = b.up;
  high = b.high;
  cost = b.cost;
})

-- a word that is no head
pub reach-plain : {x : Field} {s : Scope} {w : ℕ} {a : Costs} → IsScope (net x) s →
    ((j : LoopSetup) → s.loops j → Reachable x.graph w → w ≢ j.head) → Reachable x.graph s.low →
    AreBest a (Enters (net x) s w) → AreBest a (Reaches (net x) s w)
reach-plain {x} {s} {w} part no_head r b =
    are-same
    (λ p c q e. let f : Fresh (net x) s w p c q = enter part e in
    record { steps = f.steps; counters = f.counters; walk = f.walk })
    (λ p c q z. from_below z.walk (λ j known. no_head j known (walk-reachable r z.walk))) b

-- the second matrix matters only at elements of the first set
pub best-then-if : {a b c : Entries} {f g : Costs} → IsBest a f →
    ((p n q : ℕ) → f p n q → IsBest b g) → IsBest c (Then (In a) (In b)) → IsBest c (Then f g)
best-then-if {a} {b} {c} {f} {g} x y z = (
  λ p n q t. (best-then x (y p t.one t.at t.first) z).0 p n q t,
  λ p e q is. let t = (z.1 p e q is).1 in
      let one = x.1 p t.one t.at t.first in
      (best-then x (y p one.0 t.at one.1) z).1 p e q is,
)

pub round-lands : {g : Net} → IsNested g → (j : LoopSetup) → Lands g.own (Round g j)
round-lands t j p c q r = t.lands r.arc

pub reach-head : {x : Field} {s : Scope} {a b m : Entries} (j : LoopSetup) → IsNested (net x) →
    IsScope (net x) s → Reachable x.graph s.low → s.loops j → IsBest a (Enters (net x) s j.head) →
    (Reachable x.graph j.head → IsBest b (Rounds (net x) j j.limit)) →
    IsBest m (Then (In a) (In b)) → IsBest m (Reaches (net x) s j.head)
reach-head {x} {s} {a} {b} {m} j t part r h best rounds both =
    best-same there back
    (best-then-if best (λ p c q e. rounds (walk-reachable r (enter part e).walk)) both)
  where
    there : Within (Then (Enters (net x) s j.head) (Rounds (net x) j j.limit))
        (Reaches (net x) s j.head)
    there p c q y =
        let z : Rounded (net x) s j j.limit p c q =
        rounds_walk j j.limit t part h (omega arith) y in
        record { steps = z.steps; counters = z.counters; walk = z.walk }

    back : Within (Reaches (net x) s j.head)
        (Then (Enters (net x) s j.head) (Rounds (net x) j j.limit))
    back p c q y =
        let few : y.counters j ≤ j.limit = kept y.walk j h in
        let z : Then (Enters (net x) s j.head) (Rounds (net x) j (y.counters j)) p c q =
        at_head (y.steps + 1) j t part h y.walk refl (omega arith) in
        let up : Rounds (net x) j (y.counters j + (j.limit - y.counters j)) z.at z.two q =
        power-up (net x).own (Round (net x) j) (y.counters j)
        (j.limit - y.counters j) z.at z.two q (round-lands t j) z.second in
        let sums : y.counters j + (j.limit - y.counters j) ≡ j.limit = omega arith in
        record {
          at = z.at;
          one = z.one;
          two = z.two;
          first = z.first;
          second = subst (λ n. Rounds (net x) j n z.at z.two q) sums up;
          cost = z.cost;
        }

-- one more edge
pub comes-more : {x : Field} {s : Scope} {f : Edges} {g : Costs} (v : ℕ) (e : Edge) →
    v < e.to → e.to ≤ s.high →
    AreBest g (Either (Comes x s f e.to) (Then (Reaches (net x) s v) (x.move v e.lag))) →
    AreBest g (Comes x s (And f v e) e.to)
comes-more {x} {s} {f} v e up high both = are-same there back both
  where
    there : Within (Either (Comes x s f e.to) (Then (Reaches (net x) s v) (x.move v e.lag)))
        (Comes x s (And f v e) e.to)
    there p c q (inl (inl stays)) = inl stays
    there p c q (inl (inr b)) = inr (record {
      from = b.from;
      at = b.at;
      one = b.one;
      two = b.two;
      lag = b.lag;
      walk = b.walk;
      edge = inl b.edge;
      move = b.move;
      up = b.up;
      high = b.high;
      cost = b.cost;
    })
    there p c q (inr t) = inr (record {
      from = v;
      at = t.at;
      one = t.one;
      two = t.two;
      lag = e.lag;
      walk = t.first;
      edge = inr (refl, refl);
      move = t.second;
      up = up;
      high = high;
      cost = t.cost;
    })

    last : {p c q : ℕ} → (b : Brings x s (And f v e) e.to p c q) →
        (f b.from (record { to = e.to; lag = b.lag }))
        ⊎ ((b.from ≡ v) × (record { to = e.to; lag = b.lag } ≡ e)) →
        Either (Comes x s f e.to) (Then (Reaches (net x) s v) (x.move v e.lag)) p c q
    last b (inl old) = inl (inr (record {
      from = b.from;
      at = b.at;
      one = b.one;
      two = b.two;
      lag = b.lag;
      walk = b.walk;
      edge = old;
      move = b.move;
      up = b.up;
      high = b.high;
      cost = b.cost;
    }))
    last {p} {c} {q} b (inr (is, same)) = inr (record {
      at = b.at;
      one = b.one;
      two = b.two;
      first = subst (λ u. Reaches (net x) s u p b.one b.at) is b.walk;
      second =
          (let lags : b.lag ≡ e.lag = ap (λ e. e.lag) same in subst (λ lag.
          x.move v lag b.at b.two q) lags (subst (λ u. x.move u b.lag b.at b.two q) is b.move));
      cost = b.cost;
    })

    back : Within (Comes x s (And f v e) e.to)
        (Either (Comes x s f e.to) (Then (Reaches (net x) s v) (x.move v e.lag)))
    back p c q (inl stays) = inl (inl stays)
    back p c q (inr b) = last b b.edge

-- two sets that have the same edges from reachable words up to w
pub comes-same : {x : Field} {s : Scope} {f g : Edges} {a : Costs} {w : ℕ} →
    Reachable x.graph s.low →
    ((u : ℕ) (e : Edge) → e.to ≡ w → Reachable x.graph u → f u e → g u e) →
    ((u : ℕ) (e : Edge) → e.to ≡ w → Reachable x.graph u → g u e → f u e) →
    AreBest a (Comes x s f w) → AreBest a (Comes x s g w)
comes-same {x} {s} {f} {g} {a} {w} r there back = are-same (along f g there) (along g f back)
  where
    along : (f g : Edges) → ((u : ℕ) (e : Edge) → e.to ≡ w → Reachable x.graph u → f u e → g u e) →
        Within (Comes x s f w) (Comes x s g w)
    along f g h p c q (inl stays) = inl stays
    along f g h p c q (inr b) = inr (record {
      from = b.from;
      at = b.at;
      one = b.one;
      two = b.two;
      lag = b.lag;
      walk = b.walk;
      edge = h b.from (record { to = w; lag = b.lag }) refl (walk-reachable r b.walk.walk) b.edge;
      move = b.move;
      up = b.up;
      high = b.high;
      cost = b.cost;
    })

-- rounds, from the back edges
pub rounds-turns : {x : Field} (j : LoopSetup) (f : Edges) →
    ((u : ℕ) (e : Edge) → e.to ≡ j.head → Holds j u → Contains (x.graph.edges u) e → f u e) →
    Within (Round (net x) j) (Turns x j f)
rounds-turns j f is p c q b = record {
  from = b.from;
  at = b.at;
  one = b.one;
  two = b.two;
  lag = b.arc.lag;
  walk = b.walk;
  edge = is b.from (record { to = j.head; lag = b.arc.lag }) refl b.held b.arc.edge;
  move = b.arc.move;
  cost = b.cost;
}

-- powers by doubling
pub power-double : {own : ℕ → Type 0} {f : Costs} {a c : Entries} (n : ℕ) → Lands own f →
    IsBest a (Power own f n) → IsBest c (Then (In a) (In a)) → IsBest c (Power own f (n + n))
power-double {own} {f} n l x y =
    best-same (λ p c q t. power-join own f n n t) (λ p c q t. power-cut own f n n l t)
    (best-then x x y)
