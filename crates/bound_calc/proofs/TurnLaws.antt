-- The back edges to a loop's head.
use Rattle.std.proofs.Common.{◌≡◌, ℕ, ◌+◌, ◌%◌, ◌<◌, ◌≤◌, ◌⊎◌, refl, arith, subst}
use Rattle.std.proofs.Common.{sym, ap, ◌∙◌, inl, inr, Option, Some, None, Contains}
use Rattle.std.proofs.lemmas.List.Elements.{Contains-append_left, Contains-append_right}
use Rattle.std.proofs.lemmas.List.Elements.{Contains-append_cases}
use Rattle.fp_setup.specs.declared.loop_list.LoopSetup.{LoopSetup}
use Rattle.region_tree.specs.declared.edges.Edges.{Edges as EdgesOf}
use Rattle.region_tree.specs.Graph.{Edge, Reachable, edge_to}
use Rattle.region_tree.specs.Search.{address}
use Rattle.region_tree.specs.Tree.{Tree, IsTree, graph}
use Rattle.region_tree.specs.Walk.{IsOwn, Positions}
use Rattle.region_tree.proofs.EdgeLaws.{edge-is, is-edge}
use Rattle.region_tree.proofs.GraphLaws.{reachable-aligned}
use Rattle.bound_calc.specs.declared.matrix.Matrix.{Matrix}
use Rattle.bound_calc.specs.Best.{Costs, Either, Entries, In, IsBest, Stays, Then}
use Rattle.bound_calc.specs.Context.{IsScope, body}
use Rattle.bound_calc.specs.Matrices.{entry}
use Rattle.bound_calc.specs.Pass.{AndTo, Below, Edges, Turns}
use Rattle.bound_calc.specs.Propagation.{FrontierModel, AreWordCosts, IsSpan, IsStraight}
use Rattle.bound_calc.specs.Propagation.{IsTurned, edges_at, over, CostsOn}
use Rattle.bound_calc.specs.Section.{Field, net}
use Rattle.bound_calc.specs.PathCosts.{Reaches, Round}
use Rattle.bound_calc.proofs.Accepted.{accepted}
use Rattle.bound_calc.proofs.BestLaws.{Within, best-either-then, best-same, either-lands}
use Rattle.bound_calc.proofs.Counters.{above}
use Rattle.bound_calc.proofs.Embed.{is_or_not}
use Rattle.bound_calc.proofs.PassLaws.{over-nested, index-aligned, up-is}
use Rattle.bound_calc.proofs.Passes.{round-lands, rounds-turns, walk-reachable}

option-is : (target : Option ℕ) (v : ℕ) → (target ≡ Some v) ⊎ (target ≡ Some v → ⊥)
option-is None v = inr (λ e. let z : None ≡ Some v = e in cc)
option-is (Some u) v = elim (is_or_not u v) [
  | inl e ↦ inl (ap Some e)
  | inr ne ↦ inr (λ e. ne (let z : Some u ≡ Some v = e in cc))
]

-- the same turns, from another set
turns-same : {x : Field} {f g : Edges} {m : Entries} (j : LoopSetup) →
    Reachable x.graph j.head → IsScope (net x) (body (net x) j) →
    ((u : ℕ) (e : Edge) → e.to ≡ j.head → j.head ≤ u → Reachable x.graph u → f u e → g u e) →
    ((u : ℕ) (e : Edge) → e.to ≡ j.head → j.head ≤ u → Reachable x.graph u → g u e → f u e) →
    IsBest m (Turns x j f) → IsBest m (Turns x j g)
turns-same {x} {f} {g} j r part there back best = best-same (along f g there) (along g f back) best
  where
    along : (f g : Edges) →
        ((u : ℕ) (e : Edge) → e.to ≡ j.head → j.head ≤ u → Reachable x.graph u → f u e → g u e) →
        Within (Turns x j f) (Turns x j g)
    along f g h p c q t = record {
      from = t.from;
      at = t.at;
      one = t.one;
      two = t.two;
      lag = t.lag;
      walk = t.walk;
      edge =
          h t.from (record { to = j.head; lag = t.lag }) refl (above part t.walk.walk)
          (walk-reachable r t.walk.walk) t.edge;
      move = t.move;
      cost = t.cost;
    }

-- one more edge, to the head
turns-more : {x : Field} {f : Edges} {c : Entries} (j : LoopSetup)
    (v : ℕ) (target : Option ℕ) (lag : ℕ) → target ≡ Some j.head →
    IsBest c (Either (Turns x j f) (Then (Reaches (net x) (body (net x) j) v) (x.move v lag))) →
    IsBest c (Turns x j (AndTo f v target lag))
turns-more {x} {f} j v target lag is both = best-same there back both
  where
    there : Within (Either (Turns x j f) (Then (Reaches (net x) (body (net x) j) v) (x.move v lag)))
        (Turns x j (AndTo f v target lag))
    there p c q (inl t) = record {
      from = t.from;
      at = t.at;
      one = t.one;
      two = t.two;
      lag = t.lag;
      walk = t.walk;
      edge = inl t.edge;
      move = t.move;
      cost = t.cost;
    }
    there p c q (inr t) = record {
      from = v;
      at = t.at;
      one = t.one;
      two = t.two;
      lag = lag;
      walk = t.first;
      edge = inr (refl, is-edge target lag j.head is);
      move = t.second;
      cost = t.cost;
    }

    last : {p c q : ℕ} → (t : Turns x j (AndTo f v target lag) p c q) →
        AndTo f v target lag t.from (record { to = j.head; lag = t.lag }) →
        Either (Turns x j f) (Then (Reaches (net x) (body (net x) j) v) (x.move v lag)) p c q
    last t (inl h) = inl (record {
      from = t.from;
      at = t.at;
      one = t.one;
      two = t.two;
      lag = t.lag;
      walk = t.walk;
      edge = h;
      move = t.move;
      cost = t.cost;
    })
    last {p} {c} {q} t (inr h) =
        let lags : t.lag ≡ lag = (edge-is target lag (record { to = j.head; lag = t.lag }) h.1).1 in
        inr (record {
          at = t.at;
          one = t.one;
          two = t.two;
          first = subst (λ u. Reaches (net x) (body (net x) j) u p t.one t.at) h.0 t.walk;
          second =
              subst (λ lag. x.move v lag t.at t.two q) lags
              (subst (λ u. x.move u t.lag t.at t.two q) h.0 t.move);
          cost = t.cost;
        })

    back : Within (Turns x j (AndTo f v target lag))
        (Either (Turns x j f) (Then (Reaches (net x) (body (net x) j) v) (x.move v lag)))
    back p c q t = last t t.edge

-- an edge elsewhere
not-turned : {x : Field} {f : Edges} {m : Entries} (j : LoopSetup)
    (v : ℕ) (target : Option ℕ) (lag : ℕ) → Reachable x.graph j.head →
    IsScope (net x) (body (net x) j) → (target ≡ Some j.head → ⊥) → IsBest m (Turns x j f) →
    IsBest m (Turns x j (AndTo f v target lag))
not-turned j v target lag r part other before =
    turns-same j r part (λ u e a low ru y. inl y) (λ u e a low ru y.
    elim y [ inl z ↦ z | inr z ↦ absurd (other ((edge-is target lag e z.1).0 ∙ ap Some a)) ]) before

-- an edge of a word, whatever its target
pub turned : {x : Field} {f : Edges} {back here new : Matrix} (j : LoopSetup)
    (v : ℕ) (target : Option ℕ) (lag : ℕ) → Reachable x.graph j.head →
    IsScope (net x) (body (net x) j) → IsBest (entry here) (Reaches (net x) (body (net x) j) v) →
    IsTurned (x.move v lag) back here target j.head new →
    IsBest (entry back) (Turns x j f) → IsBest (entry new) (Turns x j (AndTo f v target lag))
turned {x} {f} {back} {here} {new} j v target lag r part best t before =
    go (option-is target j.head)
  where
    go : (target ≡ Some j.head) ⊎ (target ≡ Some j.head → ⊥) →
        IsBest (entry new) (Turns x j (AndTo f v target lag))
    go (inl is) = turns-more j v target lag is (best-either-then before best (t.there is))
    go (inr other) =
        subst (λ m. IsBest (entry m) (Turns x j (AndTo f v target lag))) (sym (t.other other))
        (not-turned j v target lag r part other before)

-- both edges of the word at an index
pub turns-word : {m : Entries} (t : Tree) (o : Positions) (word_costs : CostsOn)
    (j : LoopSetup) (k : ℕ) →
    IsTree t → Reachable (graph t) j.head →
    IsScope (net (over t o word_costs)) (body (net (over t o word_costs)) j) → let e =
    edges_at t k in
    IsBest m (Turns (over t o word_costs) j (AndTo (AndTo (Below (over t o word_costs)
    (address t k))
    (address t k) e.next e.next_lag) (address t k) e.jump 3)) →
    IsBest m (Turns (over t o word_costs) j (Below (over t o word_costs) (address t (k + 1))))
turns-word {m} t o word_costs j k is r part best = turns-same j r part there back best
  where
    x : Field
    x = over t o word_costs

    e : EdgesOf
    e = edges_at t k

    there : (u : ℕ) (b : Edge) → b.to ≡ j.head → j.head ≤ u → Reachable x.graph u →
        AndTo (AndTo (Below x (address t k)) (address t k) e.next e.next_lag)
        (address t k) e.jump 3 u b → Below x (address t (k + 1)) u b
    there u b a low ru (inl (inl z)) = (omega (arith, z.0), z.1)
    there u b a low ru (inl (inr z)) = (
      omega (arith, z.0),
      subst (λ u. Contains (x.graph.edges u) b) (sym z.0)
          (Contains-append_left (edge_to e.next e.next_lag) (edge_to e.jump 3) b z.1),
    )
    there u b a low ru (inr z) = (
      omega (arith, z.0),
      subst (λ u. Contains (x.graph.edges u) b) (sym z.0)
          (Contains-append_right (edge_to e.next e.next_lag) (edge_to e.jump 3) b z.1),
    )

    back : (u : ℕ) (b : Edge) → b.to ≡ j.head → j.head ≤ u →
        Reachable x.graph u → Below x (address t (k + 1)) u b →
        AndTo (AndTo (Below x (address t k)) (address t k) e.next e.next_lag)
        (address t k) e.jump 3 u b
    back u b a low ru z =
        go (let au : u % 4 ≡ 0 = reachable-aligned t is.draft u ru in
        let av = index-aligned t is k in
        let lt : u < address t (k + 1) = z.0 in
        let y : (u < address t k) ⊎ (u ≡ address t k) = grind arith in y)
      where
        at : u ≡ address t k →
            Contains (edge_to e.next e.next_lag) b ⊎ Contains (edge_to e.jump 3) b →
            AndTo (AndTo (Below x (address t k)) (address t k) e.next e.next_lag)
            (address t k) e.jump 3 u b
        at here (inl h) = inl (inr (here, h))
        at here (inr h) = inr (here, h)

        go : (u < address t k) ⊎ (u ≡ address t k) →
            AndTo (AndTo (Below x (address t k)) (address t k) e.next e.next_lag)
            (address t k) e.jump 3 u b
        go (inl below) = inl (inl (below, z.1))
        go (inr here) =
            at here (Contains-append_cases (edge_to e.next e.next_lag) (edge_to e.jump 3) b
            (subst (λ u. Contains (x.graph.edges u) b) here z.1))

-- a word of straight code, at or above the head
pub turns-straight : {m : Entries} (t : Tree) (o : Positions) (word_costs : CostsOn)
    (j : LoopSetup) (k last : ℕ) (edge_costs power : Option Matrix) (f : FrontierModel) → IsTree t →
    Reachable (graph t) j.head → IsScope (net (over t o word_costs)) (body (net (over t o
    word_costs)) j) →
    j.head ≤ address t k → IsStraight t (edges_at t k) k last edge_costs power f →
    IsBest m (Turns (over t o word_costs) j (Below (over t o word_costs) (address t k))) →
    IsBest m (Turns (over t o word_costs) j (Below (over t o word_costs) (address t (k + 1))))
turns-straight {m} t o word_costs j k last edge_costs power f is r part low s before =
    turns-word t o word_costs j k is r part (not-turned j (address t k) e.jump 3 r part
    (λ h. let none : None ≡ Some j.head = sym s.jump ∙ h in cc)
    (not-turned j (address t k) e.next e.next_lag r part
    (λ h. let u = up-is t k last e.next (k + 1) s.next in
    let both : Some j.head ≡ Some u.0 = sym h
    ∙ u.1 in let same : j.head ≡ u.0 = cc in omega (arith, u.2)) before))
  where
    e : EdgesOf
    e = edges_at t k

-- no word so far
pub turns-none : {x : Field} {m : Entries} (j : LoopSetup) (v : ℕ) → j.head ≡ v → IsScope (net x)
    (body (net x) j) → ((p q c : ℕ) → m p q ≡ Some c → ⊥) → IsBest m (Turns x j (Below x v))
turns-none j v e part none = (
  (λ p c q t. absurd (let z = above part t.walk.walk in let y = t.edge.0 in omega arith)),
  (λ p c q e. absurd (none p q c e)),
)

-- all words of the loop
pub turns-all : {m : Entries} (t : Tree) (o : Positions) (word_costs : CostsOn)
    (j : LoopSetup) (first last : ℕ) → IsTree t → Reachable (graph t) j.head →
    Contains t.loops j → IsScope (net (over t o word_costs)) (body (net (over t o word_costs)) j) →
    IsSpan t (body (net (over t o word_costs)) j) first last →
    IsBest m (Turns (over t o word_costs) j (Below (over t o word_costs) (address t (last + 1)))) →
    IsBest m (Round (net (over t o word_costs)) j)
turns-all {m} t o word_costs j first last is r h part sp best =
    best-same turning (rounds-turns j (Below x (address t (last + 1)))
    (λ u e a held edge. (omega (arith, held.1, top), edge))) best
  where
    x : Field
    x = over t o word_costs

    top : j.last ≤ address t last
    top = sp.top j.last (is.draft.loops j h).last_aligned (omega arith)

    turning : Within (Turns x j (Below x (address t (last + 1)))) (Round (net x) j)
    turning p c q z =
        let a = accepted t is in
        let l = a.ordered j h in
        let ru : Reachable (graph t) z.from = walk-reachable r z.walk.walk in
        let au : z.from % 4 ≡ 0 = reachable-aligned t is.draft z.from ru in
        let av = index-aligned t is last in
        let within : address t last ≤ j.last = sp.within in
        record {
          from = z.from;
          at = z.at;
          one = z.one;
          two = z.two;
          walk = z.walk;
          arc = record {
            lag = z.lag;
            edge = z.edge.1;
            move = z.move;
            reached = ru;
            lies = record { low = l.0; high = omega arith };
          };
          held = (above part z.walk.walk, (let y = z.edge.0 in omega arith));
          cost = z.cost;
        }

-- a matrix taken along an edge that leads to the head
pub is-turned : (f : Costs) (back here joined : Matrix) (target : Option ℕ) (head : ℕ) →
    target ≡ Some head → IsBest (entry joined)
    (Either (In (entry back)) (Then (In (entry here)) f)) → IsTurned f back here target head joined
is-turned f back here joined target head is best =
    record { other = λ never. absurd (never is); there = λ z. best }

-- a loop's round, after all words of the loop were passed
pub turns-done : {m : Entries} (t : Tree) (o : Positions) (word_costs : CostsOn)
    (j : LoopSetup) (first last k : ℕ) → IsTree t → Reachable (graph t) j.head →
    Contains t.loops j → IsScope (net (over t o word_costs)) (body (net (over t o word_costs)) j) →
    IsSpan t (body (net (over t o word_costs)) j) first last → k ≡ last + 1 →
    IsBest m (Turns (over t o word_costs) j (Below (over t o word_costs) (address t k))) →
    IsBest m (Round (net (over t o word_costs)) j)
turns-done {m} t o word_costs j first last k is r h part sp e best =
    turns-all t o word_costs j first last is r h part sp
    (subst (λ k. IsBest m (Turns (over t o word_costs) j (Below (over t o word_costs) (address t
    k)))) e best)

pub base-lands : (t : Tree) (o : Positions) (word_costs : CostsOn) (j : LoopSetup) (base : Matrix) →
    IsTree t → AreWordCosts o word_costs →
    IsBest (entry base) (Either (Stays (IsOwn o)) (Round (net (over t o word_costs)) j)) →
    (p c q : ℕ) →
    In (entry base) p c q → IsOwn o q
base-lands t o word_costs j base is are best p c q e =
    let z = best.1 p c q e in either-lands (round-lands (over-nested t o word_costs is are)
    j) p z.0 q z.1
