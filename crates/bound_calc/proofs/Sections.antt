-- The paths of a section are the paths of its net.
use Rattle.std.proofs.Common.{◌≡◌, ℕ, ◌+◌, ◌<◌, ◌≤◌, ◌⊎◌, refl, arith, inl}
use Rattle.std.proofs.Common.{inr, ap, subst, sym, Contains, List, [], ◌∷◌}
use Rattle.bound_calc.proofs.Counters.{moved}
use Rattle.bound_calc.specs.Best.{Then}
use Rattle.bound_calc.specs.Bound.{IsBound}
use Rattle.bound_calc.specs.Context.{IsNested, IsScope, May, Walk}
use Rattle.bound_calc.specs.Section.{Field, IsAccepted, Steps, field, net, whole}
use Rattle.bound_calc.specs.PathCosts.{Reaches}
use Rattle.fp_setup.specs.declared.loop_list.LoopSetup.{LoopSetup}
use Rattle.region_tree.specs.Graph.{Edge, Lies, Reachable}
use Rattle.region_tree.specs.Walk.{CostsOf, Course, IsOwn, IsWalk, Keeps}
use Rattle.region_tree.specs.Walk.{Leads, Step, cost, counter_after, counter}
use Rattle.bound_calc.specs.Context.Walk.{start as begin, step as onward}
use Rattle.region_tree.specs.Graph.Reachable.{first, next}
use Rattle.region_tree.specs.Walk.CostsOf.{ends, leaves}

pub field-nested : (x : Field) → IsAccepted x.graph →
    ((u lag p d q : ℕ) → x.move u lag p d q → x.own q) → IsNested (net x)
field-nested x a lands = record {
  lands = λ {u} {p} {d} {v} {q} arc. lands u arc.lag p d q arc.move;
  ordered = λ j h. (a.ordered j h).1;
  nested = a.nested;
  entered =
      λ {u} {p} {d} {v} {q} arc j h held.
      a.entered u (record { to = v; lag = arc.lag }) j arc.reached arc.edge h held;
  back =
      λ {u} {p} {d} {v} {q} arc le.
      a.back u (record { to = v; lag = arc.lag }) arc.reached arc.edge arc.lies le;
}

pub field-part : (x : Field) → IsAccepted x.graph → IsScope (net x) (whole x)
field-part x a = record {
  known = λ j h. h;
  within = λ j h. let o = a.ordered j h in (o.0, omega arith);
  closed = λ j i h h' inside. h';
}

pub net-nested : (x : Course) → IsAccepted x.graph → IsNested (net (field x))
net-nested x a = record {
  lands = λ arc. arc.move.own;
  ordered = λ j h. (a.ordered j h).1;
  nested = a.nested;
  entered =
      λ {u} {p} {d} {v} {q} arc j h held.
      a.entered u (record { to = v; lag = arc.lag }) j arc.reached arc.edge h held;
  back =
      λ {u} {p} {d} {v} {q} arc le.
      a.back u (record { to = v; lag = arc.lag }) arc.reached arc.edge arc.lies le;
}

pub whole-part : (x : Course) → IsAccepted x.graph → IsScope (net (field x)) (whole (field x))
whole-part x a = record {
  known = λ j h. h;
  within = λ j h. let o = a.ordered j h in (o.0, omega arith);
  closed = λ j i h h' inside. h';
}

-- steps from a reachable word end at one
pub leads-reachable : (x : Course) (u p : ℕ) (ts : List Step) (v q : ℕ) → Reachable x.graph u →
    Leads x u p ts v q → Reachable x.graph v
leads-reachable x u p [] v q r l = subst (λ w. Reachable x.graph w) (sym l.0) r
leads-reachable x u p (t ∷ ts) v q r l =
    subst (λ w. Reachable x.graph w) (sym l.3) (next (record { to = t.to; lag = t.lag })
    (leads-reachable x u p ts t.from t.at r l.0) l.1.edge l.2)

pub walk_of : (x : Course) (p : ℕ) (ts : List Step) (v q : ℕ) → IsAccepted x.graph →
    IsOwn x.positions p → Leads x x.graph.from p ts v q → Keeps x.graph.loops (λ j. 0) ts →
    (n : ℕ) × Walk (net (field x)) (whole (field x)) p n v q (cost ts) (λ j. counter j 0 ts)
walk_of x p [] v q a o l k = (
  0,
  subst (λ v. Walk (net (field x)) (whole (field x)) p 0 v q 0 (λ j. 0)) (sym l.0) (subst (λ q.
      Walk (net (field x)) (whole (field x)) p 0 x.graph.from q 0 (λ j. 0)) (sym l.1) (begin o)),
)
walk_of x p (t ∷ ts) v q a o l k = go (walk_of x p ts t.from t.at a o l.0 k.0)
  where
    edge : Edge
    edge = record { to = t.to; lag = t.lag }

    reached : Reachable x.graph t.from
    reached = leads-reachable x x.graph.from p ts t.from t.at first l.0

    may : (t.from < t.to) ⊎ (t.to ≤ t.from) → May (whole (field x)) t.from t.to
    may (inl up) = inl up
    may (inr down) = let b = a.back t.from edge reached l.1.edge l.2 down in inr b

    onto : (n : ℕ) → Walk (net (field x))
        (whole (field x)) p n t.to t.position (cost ts + t.cost) (λ j. counter j 0 (t ∷ ts)) →
        Walk (net (field x)) (whole (field x)) p n v q (cost (t ∷ ts)) (λ j. counter j 0 (t ∷ ts))
    onto n w =
        subst (λ v. Walk (net (field x)) (whole (field x)) p n v q (cost (t ∷ ts))
        (λ j. counter j 0 (t ∷ ts))) (sym l.3) (moved (sym l.4) (omega arith) w)

    go : (n : ℕ) × Walk (net (field x)) (whole (field x)) p n t.from t.at (cost ts)
        (λ j. counter j 0 ts) → (n : ℕ)
        × Walk (net (field x)) (whole (field x)) p n v q (cost (t ∷ ts)) (λ j. counter j 0 (t ∷ ts))
    go y = (
      y.0 + 1,
      onto (y.0 + 1) (onward y.1
          (record { lag = t.lag; edge = l.1.edge; move = l.1.turn; reached = reached; lies = l.2 })
          (let h = l.2.high in omega arith)
          (may (let s : (t.from < t.to) ⊎ (t.to ≤ t.from) = grind arith in s)) k.1),
    )

-- a path of the net as steps
pub record Walked (x : Course) (p v q c : ℕ) (k : LoopSetup → ℕ) : Type 0 where
  pub steps : List Step
  pub walk : IsWalk x p steps v q
  pub cost_is : cost steps ≡ c
  pub counters : (j : LoopSetup) → counter j 0 steps ≡ k j

pub path_of : {x : Course} {p n v q c : ℕ} {k : LoopSetup → ℕ} →
    Walk (net (field x)) (whole (field x)) p n v q c k → Walked x p v q c k
path_of (begin o) = record {
  steps = [];
  walk = record { own = o; leads = (refl, refl); keeps = tt };
  cost_is = refl;
  counters = λ j. refl;
}
path_of {x} {p} (onward {u = u} {q = q} {c = c} {d = d} {v = v} {r = r} {k = k} w arc high may f) =
    go (path_of w)
  where
    go : Walked x p u q c k → Walked x p v r (c + d) (λ j. counter_after u v j (k j))
    go y = record {
      steps = record { from = u; at = q; lag = arc.lag; cost = d; to = v; position = r } ∷ y.steps;
      walk = record {
        own = y.walk.own;
        leads = (y.walk.leads, record { edge = arc.edge; turn = arc.move }, arc.lies, refl, refl);
        keeps = (
          y.walk.keeps,
          λ j known. subst (λ n. counter_after u v j n ≤ j.limit) (sym (y.counters j)) (f j known),
        );
      };
      cost_is = omega (arith, y.cost_is);
      counters = λ j. ap (counter_after u v j) (y.counters j);
    }

-- the bound, from the costs at each word and of the steps that leave
pub costs-within : (x : Course) (b : ℕ) → IsAccepted x.graph →
    ((p c q v : ℕ) → Reaches (net (field x)) (whole (field x)) v p c q → c ≤ b) →
    ((v p c q : ℕ) (e : Edge) → Contains (x.graph.edges v) e → (Lies x.graph e.to → ⊥) →
    Then (Reaches (net (field x)) (whole (field x)) v) (Steps x.positions e.lag) p c q → c ≤ b) →
    (c : ℕ) → CostsOf x c → c ≤ b
costs-within x b a inside out = all
  where
    all : (c : ℕ) → CostsOf x c → c ≤ b
    all c (ends {p} {v} {q} ts w) =
        let z = walk_of x p ts v q a w.own w.leads w.keeps in
        inside p (cost ts) q v (record { steps = z.0; counters = λ j. counter j 0 ts; walk = z.1 })
    all c (leaves {p} ts t w s no_more) =
        let z = walk_of x p ts t.from t.at a w.own w.leads w.keeps in
        out t.from p (cost (t ∷ ts)) t.position (record { to = t.to; lag = t.lag }) s.edge no_more
        (record {
          at = t.at;
          one = cost ts;
          two = t.cost;
          first = record { steps = z.0; counters = λ j. counter j 0 ts; walk = z.1 };
          second = s.turn;
          cost = omega arith;
        })

pub is_bound : (x : Course) (b : ℕ) → IsAccepted x.graph → CostsOf x b →
    ((p c q v : ℕ) → Reaches (net (field x)) (whole (field x)) v p c q → c ≤ b) →
    ((v p c q : ℕ) (e : Edge) → Contains (x.graph.edges v) e → (Lies x.graph e.to → ⊥) →
    Then (Reaches (net (field x)) (whole (field x)) v) (Steps x.positions e.lag) p c q → c ≤ b) →
    IsBound x b
is_bound x b a met inside out = record { met = met; kept = costs-within x b a inside out }

pub met-inside : (x : Course) (v p c q : ℕ) →
    Reaches (net (field x)) (whole (field x)) v p c q → CostsOf x c
met-inside x v p c q r =
    let y = path_of r.walk in subst (λ c. CostsOf x c) y.cost_is (ends y.steps y.walk)

pub met-out : (x : Course) (v p c q : ℕ) (e : Edge) →
    Contains (x.graph.edges v) e → (Lies x.graph e.to → ⊥) →
    Then (Reaches (net (field x)) (whole (field x)) v) (Steps x.positions e.lag) p c q → CostsOf x c
met-out x v p c q e h out t =
    let y = path_of t.first.walk in
    let s : Step =
    record { from = v; at = t.at; lag = e.lag; cost = t.two; to = e.to; position = q } in
    let sums : cost (s ∷ y.steps) ≡ c = omega (arith, y.cost_is, t.cost) in
    subst (λ c. CostsOf x c) sums
    (leaves y.steps s y.walk (record { edge = h; turn = t.second }) out)
