-- The largest of all entries is the bound.
use Rattle.std.proofs.Common.{◌≡◌, ℕ, ◌+◌, ◌<◌, ◌≤◌, ◌⊎◌, ◌^◌, ◌-◌, min, nat_le, nat_lt}
use Rattle.std.proofs.Common.{refl, arith, subst, sym, ap, ◌∙◌, inl, inr, List, []}
use Rattle.std.proofs.Common.{length, Option, Some, None, Contains, Bool, true, false}
use Rattle.std.proofs.lemmas.Bool.Decides.{nat_tests}
use Rattle.std.proofs.lemmas.List.Elements.{Contains-append_left, Contains-append_right}
use Rattle.std.proofs.lemmas.List.Elements.{Contains-append_cases}
use Rattle.region_tree.specs.declared.edges.Edges.{Edges as EdgesOf}
use Rattle.region_tree.specs.Graph.{Edge, Lies, Reachable, edge_to}
use Rattle.region_tree.specs.Graph.Reachable.{first}
use Rattle.region_tree.specs.Search.{address}
use Rattle.region_tree.specs.Tree.{IsTree, Tree, graph}
use Rattle.region_tree.specs.Walk.{CostsOf, Course, IsOwn, Positions}
use Rattle.region_tree.specs.Walk.CostsOf.{ends}
use Rattle.region_tree.proofs.EdgeLaws.{edge-is, is-edge}
use Rattle.region_tree.proofs.GraphLaws.{address-lies, index-address, index-within}
use Rattle.region_tree.proofs.GraphLaws.{reachable-aligned, reachable-lies}
use Rattle.bound_calc.specs.declared.hop.Hop.{Hop}
use Rattle.bound_calc.specs.declared.matrix.Matrix.{Matrix}
use Rattle.bound_calc.specs.Best.{AreBest, Costs, Entries, In, IsBest, Then, ceiling}
use Rattle.bound_calc.specs.Bound.{IsBound}
use Rattle.bound_calc.specs.Hops.{IsHops, IsLeft}
use Rattle.bound_calc.specs.Matrices.{entry}
use Rattle.bound_calc.specs.Propagation.{FrontierModel, IsMost, IsMostFrom, IsOut}
use Rattle.bound_calc.specs.Propagation.{IsStraight, FrontierCosts, edges_at, leaves}
use Rattle.bound_calc.specs.Propagation.{index, walks, over, AreWordCosts, CostsOn}
use Rattle.bound_calc.specs.Section.{Steps, field, net, whole}
use Rattle.bound_calc.specs.PathCosts.{Reaches}
use Rattle.bound_calc.proofs.Accepted.{accepted}
use Rattle.bound_calc.proofs.Depth.{limit-whole, step-short}
use Rattle.bound_calc.proofs.FillLaws.{below, modest-over}
use Rattle.bound_calc.proofs.PassLaws.{up-is}
use Rattle.bound_calc.proofs.Passes.{walk-reachable}
use Rattle.bound_calc.proofs.Sections.{costs-within, is_bound, met-inside, met-out}

-- the costs of a table's steps out of the section
pub out-left : (s : Positions) (here : Matrix) (hops : List (Option Hop)) (lag old new : ℕ) →
    IsHops s lag hops → IsLeft here hops old new → IsOut s here true lag old new
out-left s here hops lag old new h l = record {
  stays = l.stays;
  upper = λ out p c q t. l.upper p c q (record {
    at = t.at;
    one = t.one;
    two = t.two;
    first = t.first;
    second = h.all t.at t.two q t.second;
    cost = t.cost;
  });
  met = elim l.met [
    | inl same ↦ inl same
    | inr y ↦ inr (
      refl,
      (
        y.0,
        y.1,
        y.2,
        (let t = y.3 in record {
          at = t.at;
          one = t.one;
          two = t.two;
          first = t.first;
          second = h.found t.at t.two y.2 t.second;
          cost = t.cost;
        }),
        y.4,
      ),
    )
  ];
}

pub out-none : (s : Positions) (here : Matrix) (lag old : ℕ) → IsOut s here false lag old old
out-none s here lag old = record { stays = omega arith; upper = λ out p c q t. cc; met = inl refl }

-- an edge that leaves the section, and one that doesn't
pub leaves-not : (t : Tree) (v : ℕ) → leaves t (Some v) ≡ true → Lies (graph t) v → ⊥
leaves-not t v e l =
    let a : nat_le t.section.from v ≡ true = grind (arith, nat_tests, l.low) in
    let b : nat_lt v t.section.to ≡ true = grind (arith, nat_tests, l.high) in
    let z : leaves t (Some v) ≡ false = rw (a, b) refl in cc

pub not-leaves : (t : Tree) (v : ℕ) → (Lies (graph t) v → ⊥) → leaves t (Some v) ≡ true
not-leaves t v far = go (nat_le t.section.from v) (nat_lt v t.section.to) refl refl
  where
    go : (a b : Bool) → nat_le t.section.from v ≡ a → nat_lt v t.section.to ≡ b →
        leaves t (Some v) ≡ true
    go true true x y =
        absurd (far (record { low = grind (arith, nat_tests); high = grind (arith, nat_tests) }))
    go true false x y = rw (x, y) refl
    go false b x y = rw (x) refl

-- costs of paths are far below the ceiling of sums
reach-small : (t : Tree) (o : Positions) → IsTree t → length o.frame ≤ 8 → (v p c q : ℕ) →
    Reaches (net (field (walks t o))) (whole (field (walks t o))) v p c q → c < 2 ^ 110
reach-small t o is frame v p c q r =
    let high : v ≤ t.section.to - 1 =
    below (let s = is.draft.section.order in omega arith) r.walk in
    limit-whole (walks t o) (accepted t is) (modest-over t o is frame) p c q v r
    (let s = is.draft.section.order in omega arith)

step-small : (t : Tree) (o : Positions) → IsTree t → length o.frame ≤ 8 →
    (v p c q : ℕ) (e : Edge) → Contains ((graph t).edges v) e →
    Then (Reaches (net (field (walks t o))) (whole (field (walks t o))) v)
    (Steps o e.lag) p c q → c < 2 ^ 111
step-small t o is frame v p c q e h z =
    let y : z.one < 2 ^ 110 = reach-small t o is frame v p z.one z.at z.first in
    let few : e.lag ≤ 3 = (modest-over t o is frame).lags v e h in
    let d : z.two ≤ 10 = step-short o e.lag z.at z.two q few frame z.second in
    omega (arith, z.cost)

costs-small : (t : Tree) (o : Positions) → IsTree t → length o.frame ≤ 8 → (c : ℕ) →
    CostsOf (walks t o) c → c ≤ 2 ^ 111
costs-small t o is frame =
    costs-within (walks t o) (2 ^ 111) (accepted t is)
    (λ p c q v r. let z = reach-small t o is frame v p c q r in omega arith)
    (λ v p c q e h out z. let y = step-small t o is frame v p c q e h z in omega arith)

-- a small number is exact below the ceiling
exact : (c n : ℕ) → n ≤ 2 ^ 111 → min c ceiling ≡ min n ceiling → n ≡ c
exact c n small e = omega arith

exact-≤ : (c b : ℕ) → c ≤ 2 ^ 111 → min c ceiling ≤ b → c ≤ b
exact-≤ c b small e = omega arith

≤-two : (a b c : ℕ) → a ≤ b → b ≤ c → a ≤ c
≤-two a b c h h' = omega arith

out-same : (a one two d c n : ℕ) → min one n ≡ min a n → d ≡ one + two → c ≡ min d n →
    min c n ≡ min (a + two) n
out-same a one two d c n h h' h'' = omega arith

pub most-first : (x : Course) (t : Tree) → (p : ℕ) × IsOwn x.positions p → IsMost x t 0 0
most-first x t o = record {
  met = (0, ends [] (record { own = o.1; leads = (refl, refl); keeps = tt }), refl);
  inside = λ k p c q lt e. absurd (omega arith);
  out = λ k p c q e lt known far z. absurd (omega arith);
}

sum-≤ : (c one two a e n m : ℕ) → c ≡ one + two → min one n ≤ a → min (a + two) n ≤ m → min c n ≤ m
sum-≤ c one two a e n m is h h' = omega arith

least-≤ : (c e n m : ℕ) → min c n ≤ min e n → min e n ≤ m → min c n ≤ m
least-≤ c e n m h h' = omega arith

-- an edge of the word at an index is one of the two
either-edge : (t : Tree) (k : ℕ) (b : Edge) → Contains ((graph t).edges (address t k)) b →
    let e = edges_at t k in Contains (edge_to e.next e.next_lag) b ⊎ Contains (edge_to e.jump 3) b
either-edge t k b known =
    Contains-append_cases (edge_to (edges_at t k).next (edges_at t k).next_lag)
    (edge_to (edges_at t k).jump 3) b known

-- one more word
pub most-more : (t : Tree) (o : Positions) (k : ℕ) (here : Matrix) (most new : ℕ) →
    IsBest (entry here)
    (Reaches (net (field (walks t o))) (whole (field (walks t o))) (address t k)) →
    IsMost (walks t o) t k most → IsMostFrom t o here (edges_at t k) most new →
    IsMost (walks t o) t (k + 1) new
most-more t o k here most new best m f = record {
  met = jump_met j.met;
  inside = λ w p c q lt r. within w p c q r (let z : (w < k) ⊎ (w ≡ k) = grind arith in z);
  out =
      λ w p c q b lt known far z.
      outside w p c q b known far z (let z : (w < k) ⊎ (w ≡ k) = grind arith in z);
}
  where
    x : Course
    x = walks t o

    e : EdgesOf
    e = edges_at t k

    n : IsOut o here (leaves t e.next) e.next_lag f.inner f.next
    n = f.by_next

    j : IsOut o here (leaves t e.jump) 3 f.next new
    j = f.by_jump

    Reached : ℕ → Costs
    Reached w = Reaches (net (field x)) (whole (field x)) (address t w)

    Met : ℕ → Type 0
    Met c = (n : ℕ) × CostsOf x n × (min c ceiling ≡ min n ceiling)

    leaving : (target : Option ℕ) (lag c : ℕ) →
        ((b : Edge) → Contains (edge_to target lag) b → Contains (x.graph.edges (address t k)) b) →
        leaves t target ≡ true → ((p : ℕ) × (d : ℕ) × (q : ℕ)
        × Then (In (entry here)) (Steps o lag) p d q × (c ≡ min d ceiling)) → Met c
    leaving None lag c known out y =
        absurd (let z : false ≡ true = out in let none : ⊥ = cc in none)
    leaving (Some v) lag c known out (p, d, q, z, is) =
        let b : Edge = record { to = v; lag = lag } in
        let a = best.1 p z.one z.at z.first in (
          a.0 + z.two,
          met-out x (address t k) p (a.0 + z.two) q b (known b (is-edge (Some v) lag v refl))
              (leaves-not t v out) (record {
                at = z.at;
                one = a.0;
                two = z.two;
                first = a.1;
                second = z.second;
                cost = refl;
              }),
          out-same a.0 z.one z.two d c ceiling a.2 z.cost is,
        )

    known_next : (b : Edge) → Contains (edge_to e.next e.next_lag) b →
        Contains (x.graph.edges (address t k)) b
    known_next b h = Contains-append_left (edge_to e.next e.next_lag) (edge_to e.jump 3) b h

    known_jump : (b : Edge) → Contains (edge_to e.jump 3) b →
        Contains (x.graph.edges (address t k)) b
    known_jump b h = Contains-append_right (edge_to e.next e.next_lag) (edge_to e.jump 3) b h

    inner_met : Met f.inner
    inner_met = elim f.largest.met [
      | inl same ↦ subst Met (sym same) m.met
      | inr y ↦
          (let a = best.1 y.0 f.inner y.1 y.2 in
          (a.0, met-inside x (address t k) y.0 a.0 y.1 a.1, a.2))
    ]

    next_met : Met f.next
    next_met = elim n.met [
      | inl same ↦ subst Met (sym same) inner_met
      | inr y ↦ leaving e.next e.next_lag f.next known_next y.0 y.1
    ]

    jump_met : (new ≡ f.next) ⊎ ((leaves t e.jump ≡ true) × ((p : ℕ) × (c : ℕ) × (q : ℕ)
        × Then (In (entry here)) (Steps o 3) p c q × (new ≡ min c ceiling))) → Met new
    jump_met (inl same) = subst Met (sym same) next_met
    jump_met (inr y) = leaving e.jump 3 new known_jump y.0 y.1

    grows : most ≤ new
    grows = omega (arith, f.largest.stays, n.stays, j.stays)

    within : (w p c q : ℕ) → Reached w p c q → (w < k) ⊎ (w ≡ k) → min c ceiling ≤ new
    within w p c q r (inl below) = ≤-two (min c ceiling) most new (m.inside w p c q below r) grows
    within w p c q r (inr same) =
        let y = best.0 p c q (subst (λ w. Reached w p c q) same r) in
        let z : y.0 ≤ f.inner = f.largest.upper p y.0 q y.1 in
        ≤-two (min c ceiling) y.0 new y.2 (omega (arith, n.stays, j.stays))

    -- an edge out is one of the two
    goes : (target : Option ℕ) (lag : ℕ) (b : Edge) → Contains (edge_to target lag) b →
        (Lies (graph t) b.to → ⊥) → (leaves t target ≡ true) × (b.lag ≡ lag)
    goes target lag b h far =
        let i = edge-is target lag b h in (ap (leaves t) i.0 ∙ not-leaves t b.to far, i.1)

    outside : (w p c q : ℕ) (b : Edge) → Contains (x.graph.edges (address t w)) b →
        (Lies (graph t) b.to → ⊥) → Then (Reached w) (Steps o b.lag) p c q → (w < k) ⊎ (w ≡ k) →
        min c ceiling ≤ new
    outside w p c q b known far z (inl below) =
        ≤-two (min c ceiling) most new (m.out w p c q b below known far z) grows
    outside w p c q b known far z (inr same) =
        go (either-edge t k b (subst (λ w. Contains (x.graph.edges (address t w)) b) same known))
      where
        here_k : Then (Reached k) (Steps o b.lag) p c q
        here_k = subst (λ w. Then (Reached w) (Steps o b.lag) p c q) same z

        go : Contains (edge_to e.next e.next_lag) b ⊎ Contains (edge_to e.jump 3) b →
            min c ceiling ≤ new
        go (inl h) =
            let g = goes e.next e.next_lag b h far in
            let y = best.0 p here_k.one here_k.at here_k.first in
            let up : min (y.0 + here_k.two) ceiling ≤ f.next =
            n.upper g.0 p (y.0 + here_k.two) q (record {
              at = here_k.at;
              one = y.0;
              two = here_k.two;
              first = y.1;
              second = subst (λ lag. Steps o lag here_k.at here_k.two q) g.1 here_k.second;
              cost = refl;
            }) in
            ≤-two (min c ceiling) f.next new
            (sum-≤ c here_k.one here_k.two y.0 0 ceiling f.next here_k.cost y.2 up) j.stays
        go (inr h) =
            let g = goes e.jump 3 b h far in
            let y = best.0 p here_k.one here_k.at here_k.first in
            let up : min (y.0 + here_k.two) ceiling ≤ new =
            j.upper g.0 p (y.0 + here_k.two) q (record {
              at = here_k.at;
              one = y.0;
              two = here_k.two;
              first = y.1;
              second = subst (λ lag. Steps o lag here_k.at here_k.two q) g.1 here_k.second;
              cost = refl;
            }) in
            sum-≤ c here_k.one here_k.two y.0 0 ceiling new here_k.cost y.2 up

-- one more word of straight code
pub most-straight : (t : Tree) (o : Positions) (k last : ℕ) (edge_costs power : Option Matrix)
    (f : FrontierModel) (most new : ℕ) → IsTree t → last < length t.words →
    AreBest (FrontierCosts f)
    (Reaches (net (field (walks t o))) (whole (field (walks t o))) (address t k)) →
    IsStraight t (edges_at t k) k last edge_costs power f → IsMost (walks t o) t k most →
    IsLeft f.base f.hops most new → IsMost (walks t o) t (k + 1) new
most-straight t o k last edge_costs power f most new is inner best s m l = record {
  met = elim l.met [
    | inl same ↦ subst Met (sym same) m.met
    | inr y ↦
        (let a = best.among y.0 y.1 y.2 y.3 in
        (a.0, met-inside x (address t k) y.0 a.0 y.2 a.1, capped-same new y.1 a.0 ceiling y.4 a.2))
  ];
  inside = λ w p c q lt r. within w p c q r (let z : (w < k) ⊎ (w ≡ k) = grind arith in z);
  out =
      λ w p c q b lt known far z.
      outside w p c q b known far z (let z : (w < k) ⊎ (w ≡ k) = grind arith in z);
}
  where
    x : Course
    x = walks t o

    e : EdgesOf
    e = edges_at t k

    Reached : ℕ → Costs
    Reached w = Reaches (net (field x)) (whole (field x)) (address t w)

    Met : ℕ → Type 0
    Met c = (n : ℕ) × CostsOf x n × (min c ceiling ≡ min n ceiling)

    capped-same : (new d a n : ℕ) → new ≡ min d n → min d n ≡ min a n → min new n ≡ min a n
    capped-same new d a n h h' = omega arith

    within : (w p c q : ℕ) → Reached w p c q → (w < k) ⊎ (w ≡ k) → min c ceiling ≤ new
    within w p c q r (inl below) = ≤-two (min c ceiling) most new (m.inside w p c q below r) l.stays
    within w p c q r (inr same) =
        let y = best.covers p c q (subst (λ w. Reached w p c q) same r) in
        least-≤ c y.0 ceiling new y.2 (l.upper p y.0 q y.1)

    -- the one edge stays inside
    stays : (b : Edge) → Contains (edge_to e.next e.next_lag) b ⊎ Contains (edge_to e.jump 3) b →
        Lies (graph t) b.to
    stays b (inl h) =
        let i : e.next ≡ Some b.to = (edge-is e.next e.next_lag b h).0 in
        let u = up-is t k last e.next (k + 1) s.next in
        let both : Some b.to ≡ Some u.0 = sym i ∙ u.1 in
        let same : b.to ≡ u.0 = cc in
        let a = (address-lies t is.draft last inner).high in
        record { low = omega (arith, u.2); high = omega (arith, u.3) }
    stays b (inr h) =
        absurd (let i : e.jump ≡ Some b.to = (edge-is e.jump 3 b h).0 in
        let none : None ≡ Some b.to = sym s.jump ∙ i in let n : ⊥ = cc in n)

    outside : (w p c q : ℕ) (b : Edge) → Contains (x.graph.edges (address t w)) b →
        (Lies (graph t) b.to → ⊥) → Then (Reached w) (Steps o b.lag) p c q → (w < k) ⊎ (w ≡ k) →
        min c ceiling ≤ new
    outside w p c q b known far z (inl below) =
        ≤-two (min c ceiling) most new (m.out w p c q b below known far z) l.stays
    outside w p c q b known far z (inr same) =
        absurd (far (stays b
        (either-edge t k b (subst (λ w. Contains (x.graph.edges (address t w)) b) same known))))

-- all words
pub most-all : (t : Tree) (o : Positions) (n most : ℕ) → IsTree t → length o.frame ≤ 8 →
    length t.words ≤ n → IsMost (walks t o) t n most → IsBound (walks t o) most
most-all t o n most is frame top m =
    is_bound x most (accepted t is) (let a = m.met in
    subst (λ c. CostsOf x c) (exact most a.0 (costs-small t o is frame a.0 a.1) a.2) a.1) inside out
  where
    x : Course
    x = walks t o

    -- the last word of a path has an index
    placed : {v p c q : ℕ} → Reaches (net (field x)) (whole (field x)) v p c q →
        (index t v < length t.words) × (address t (index t v) ≡ v)
    placed {v} r =
        let reached : Reachable (graph t) v = walk-reachable first r.walk in
        let lies : Lies (graph t) v = reachable-lies t is.draft v reached in (
          index-within t is.draft v lies,
          index-address t is.draft v (reachable-aligned t is.draft v reached) lies,
        )

    inside : (p c q v : ℕ) → Reaches (net (field x)) (whole (field x)) v p c q → c ≤ most
    inside p c q v r =
        let w = placed r in
        exact-≤ c most (let s = reach-small t o is frame v p c q r in omega arith)
        (m.inside (index t v) p c q (omega (arith, w.0))
        (subst (λ v. Reaches (net (field x)) (whole (field x)) v p c q) (sym w.1) r))

    out : (v p c q : ℕ) (e : Edge) → Contains (x.graph.edges v) e →
        (Lies x.graph e.to → ⊥) → Then (Reaches (net (field x)) (whole (field x)) v)
        (Steps x.positions e.lag) p c q → c ≤ most
    out v p c q e known far r =
        let w = placed r.first in
        exact-≤ c most (let s = step-small t o is frame v p c q e known r in omega arith)
        (m.out (index t v) p c q e (omega (arith, w.0))
        (subst (λ v. Contains (x.graph.edges v) e) (sym w.1) known) far (subst (λ v. Then
        (Reaches (net (field x)) (whole (field x)) v) (Steps x.positions e.lag) p c q) (sym w.1) r))

-- no word has a matrix of its own: every step is by the turns
abbrev pub no-word_costs : CostsOn
no-word_costs k = None

same-field : (t : Tree) (o : Positions) → over t o no-word_costs ≡ field (walks t o)
same-field t o = refl

pub turns-best : (t : Tree) (o : Positions) (m : Entries) (v : ℕ) →
    IsBest m (Reaches (net (over t o no-word_costs)) (whole (over t o no-word_costs)) v) →
    IsBest m (Reaches (net (field (walks t o))) (whole (field (walks t o))) v)
turns-best t o m v best = subst (λ f. IsBest m (Reaches (net f) (whole f) v)) (same-field t o) best

pub turns-are : (t : Tree) (o : Positions) (a : Costs) (v : ℕ) →
    AreBest a (Reaches (net (over t o no-word_costs)) (whole (over t o no-word_costs)) v) →
    AreBest a (Reaches (net (field (walks t o))) (whole (field (walks t o))) v)
turns-are t o a v best = subst (λ f. AreBest a (Reaches (net f) (whole f) v)) (same-field t o) best

pub none-go_on : (o : Positions) → AreWordCosts o no-word_costs
none-go_on o k m e p c q i = let z : None ≡ Some m = e in cc
