-- One word of a pass.
use Rattle.std.proofs.Common.{◌≡◌, ◌≢◌, ℕ, zero, suc, ◌+◌, ◌-◌, ◌/◌, ◌%◌, ◌<◌, ◌≤◌, ◌⊎◌, ◌↔◌, ◌&&◌}
use Rattle.std.proofs.Common.{nat_lt, nat_le, refl, arith, subst, sym, ap, ◌∙◌, inl, inr, List}
use Rattle.std.proofs.Common.{[], ◌∷◌, ◌++◌, length, Option, Some, None, slice_index_or, slice_set}
use Rattle.std.proofs.Common.{MatchOption, replicate, get_or-set_other, get_or-set_same, length-set}
use Rattle.std.proofs.Common.{Contains, Bool, true, false, if◌then◌else◌, Box, Global, IfSome}
use Rattle.std.proofs.lemmas.List.Elements.{Contains-append_left, Contains-append_right}
use Rattle.std.proofs.lemmas.List.Elements.{Contains-append_cases}
use Rattle.std.proofs.lemmas.Bool.Decides.{nat_tests}
use Rattle.std.proofs.lemmas.List.{get_or_append_left, get_or-append_right}
use Rattle.std.proofs.lemmas.List.{get_or_default, get_or_past}
use Rattle.std.specs.Option.{is_some, option_map}
use Rattle.fp_setup.specs.declared.loop_list.LoopSetup.{LoopSetup}
use Rattle.region_tree.specs.declared.edges.Edges.{Edges as EdgesOf}
use Rattle.region_tree.specs.Graph.{Edge, Lies, Reachable, edge_to}
use Rattle.region_tree.specs.Search.{address}
use Rattle.region_tree.specs.Tree.{Tree, IsTree, graph, word_at}
use Rattle.region_tree.specs.Walk.{IsOwn, Positions}
use Rattle.region_tree.proofs.EdgeLaws.{edge-aligned, edge-is, is-edge, next-short}
use Rattle.region_tree.proofs.GraphLaws.{reachable-aligned, index-address}
use Rattle.region_tree.proofs.GraphLaws.{address-lies, address-index}
use Rattle.bound_calc.specs.declared.matrix.Matrix.{Matrix}
use Rattle.bound_calc.specs.declared.hop.Hop.{Hop}
use Rattle.bound_calc.specs.declared.hop.HopRow.{HopRow}
use Rattle.bound_calc.specs.Best.{AreBest, Costs, Stays, Either, Then, Entries, In, IsBest}
use Rattle.bound_calc.specs.Context.{IsNested, Scope, IsScope, body}
use Rattle.bound_calc.specs.Hops.{Hops, IsHops, hop_chain}
use Rattle.bound_calc.specs.Matrices.{entry}
use Rattle.bound_calc.specs.Pass.{Edges, Below, And, AndTo, Brings, Comes}
use Rattle.bound_calc.specs.Propagation.{FrontierModel, Ahead, AreWordCosts, IsArrived, IsBrought}
use Rattle.bound_calc.specs.Propagation.{IsFrontier, IsGone, IsLed, IsReady, IsTaken}
use Rattle.bound_calc.specs.Propagation.{IsSkipped, IsSpan, IsStraight, FrontierCosts, Powers}
use Rattle.bound_calc.specs.Propagation.{Via, Waits, CostsOn, move_costs, over, edges_at}
use Rattle.bound_calc.specs.Propagation.{index, matrix_at, no_matrix, power_at, up_of}
use Rattle.bound_calc.specs.Section.{Field, Steps, net, whole}
use Rattle.bound_calc.specs.PathCosts.{Reaches, Enters, Rounds}
use Rattle.bound_calc.proofs.Accepted.{accepted}
use Rattle.bound_calc.proofs.Sections.{field-nested}
use Rattle.bound_calc.proofs.BestLaws.{Within, are-either, are-in, are-same, are-then}
use Rattle.bound_calc.proofs.BestLaws.{are-through, are-within, best-same, best-through}
use Rattle.bound_calc.proofs.Depth.{step-short}
use Rattle.bound_calc.proofs.Counters.{above}
use Rattle.bound_calc.proofs.Embed.{is_or_not}
use Rattle.bound_calc.proofs.Entries.{entry-in, entry-range}
use Rattle.bound_calc.proofs.Passes.{comes-enters, enters-comes, reach-head}
use Rattle.bound_calc.proofs.Passes.{reach-plain, comes-more, comes-same}
use Rattle.bound_calc.proofs.StepLaws.{hop, nothing, get-none, some_hop}

-- addresses of indices
pub index-aligned : (t : Tree) → IsTree t → (k : ℕ) → address t k % 4 ≡ 0
index-aligned t is k = let a = is.draft.section.from_aligned in omega arith

-- the steps of a table are those to the next turns
pub with-steps : {s : Positions} {lag : ℕ} {hops : List (Option Hop)} {m : Entries} {f g : Costs} →
    IsHops s lag hops → IsBest m (Either f (Then g (Hops hops))) →
    IsBest m (Either f (Then g (Steps s lag)))
with-steps h b = best-same
    (λ p c q z. elim z [
      | inl a ↦ inl a
      | inr t ↦ inr (record {
        at = t.at;
        one = t.one;
        two = t.two;
        first = t.first;
        second = h.found t.at t.two q t.second;
        cost = t.cost;
      })
    ])
    (λ p c q z. elim z [
      | inl a ↦ inl a
      | inr t ↦ inr (record {
        at = t.at;
        one = t.one;
        two = t.two;
        first = t.first;
        second = h.all t.at t.two q t.second;
        cost = t.cost;
      })
    ]) b

pub hops-positions : (s : Positions) (lag : ℕ) (hops : List (Option Hop)) → length s.frame ≤ 8 →
    IsHops s lag hops → (p d q : ℕ) → Hops hops p d q → (p < 8) × (q < 8)
hops-positions s lag hops frame h p d q is =
    let t = h.found p d q is in
    let a = t.start.within in let b = t.own.within in (omega arith, omega arith)

pub no-option : {A : Type 0} (o : Option A) → is_some o ≡ false → o ≡ None
no-option None e = refl
no-option (Some x) e = cc

-- storing a matrix at an index changes no other index
pub waits-set : (old : Powers) (k w : ℕ) (o : Option (Box Matrix Global)) → w ≢ k →
    power_at (slice_set old k o) w ≡ power_at old w
waits-set old k w o ne =
    ap (λ y. option_map (λ (b : Box Matrix Global). b.value) y) (get_or-set_other old k w o None ne)

waits-put : (old : Powers) (k : ℕ) (o : Option (Box Matrix Global)) → k < length old →
    power_at (slice_set old k o) k ≡ option_map (λ b. b.value) o
waits-put old k o lt =
    ap (λ y. option_map (λ (b : Box Matrix Global). b.value) y) (get_or-set_same old k o None lt)

waits-in : (old new : Powers) (w : ℕ) → power_at new w ≡ power_at old w →
    Within (Waits old w) (Waits new w)
waits-in old new w same p c q (m, is, e) = (m, same ∙ is, e)

waits-same : (old new : Powers) (w : ℕ) → power_at new w ≡ power_at old w →
    AreBest (Waits new w) (Waits old w)
waits-same old new w same = are-within (waits-in new old w (sym same)) (waits-in old new w same)

-- an edge to another word brings nothing to this one
via-other : {to : Option ℕ} {w : ℕ} {f g : Costs} → (to ≡ Some w → ⊥) →
    AreBest (Either g (Via to w f)) g
via-other never =
    are-within (λ p c q y. elim y [ inl z ↦ z | inr z ↦ absurd (never z.0) ]) (λ p c q y. inl y)

via-there : {to : Option ℕ} {w : ℕ} {f g : Costs} → to ≡ Some w → AreBest f g →
    AreBest (Via to w f) g
via-there is a = record {
  covers = λ p c q y. let z = a.covers p c q y in (z.0, (is, z.1), z.2);
  among = λ p e q y. a.among p e q y.1;
}

pub brought-none : (f : Costs) (old : FrontierModel) → IsBrought None f old old
brought-none f old = record {
  count = refl;
  base = refl;
  hops = refl;
  waits =
      λ w. are-within (λ p c q y. inl y)
      (λ p c q y. elim y [ inl z ↦ z | inr z ↦ absurd (let e : None ≡ Some w = z.0 in cc) ]);
}

-- the costs that waited at an index, if any
holds : (old : Powers) (k : ℕ) (m : Matrix) (was : Option Matrix) → power_at old k ≡ was →
    IsTaken was m → Within (Waits old k) (In (entry m)) × Within (In (entry m)) (Waits old k)
holds old k m None is none = (
  (λ p c q y. absurd (let e : None ≡ Some y.0 = sym is ∙ y.1 in let n : ⊥ = cc in n)),
  (λ p c q y. absurd (none p q c y)),
)
holds old k m (Some n) is same = (
  (λ p c q y. let e : Some n ≡ Some y.0 = sym is ∙ y.1 in
      let at : n ≡ y.0 = cc in
      subst (λ m. In (entry m) p c q) (sym at ∙ sym same) y.2),
  (λ p c q y. (m, is ∙ ap Some (sym same), y)),
)

-- costs were joined with those that wait at the index of an edge's target
pub is-brought : (to : Option ℕ) (k : ℕ) (first : Matrix) (joined : Box Matrix Global) (f : Costs)
    (frontier : FrontierModel) (mid : Powers) (was : Option Matrix) → let old = frontier.waiting in
    to ≡ Some k → k < length old → ((w : ℕ) → w ≢ k → power_at mid w ≡ power_at old w) →
    length mid ≡ length old → power_at old k ≡ was → IsTaken was first →
    IsBest (entry joined.value) (Either (In (entry first)) f) → IsBrought to f frontier
    (record { waiting = slice_set mid k (Some joined); base = frontier.base; hops = frontier.hops })
is-brought to k first joined f frontier mid was is lt others count at taken best = record {
  count = length-set mid k (Some joined) ∙ count;
  base = refl;
  hops = refl;
  waits = λ w. go w (is_or_not w k);
}
  where
    old : Powers
    old = frontier.waiting

    same : Within (Waits old k) (In (entry first)) × Within (In (entry first)) (Waits old k)
    same = holds old k first was at taken

    here : AreBest (Waits (slice_set mid k (Some joined)) k) (Either (Waits old k) (Via to k f))
    here =
        let put : power_at (slice_set mid k (Some joined)) k ≡ Some joined.value =
        waits-put mid k (Some joined) (omega arith) in
        let one : AreBest (Waits (slice_set mid k (Some joined)) k) (In (entry joined.value)) =
        are-within (λ p c q y. let e : Some joined.value ≡ Some y.0 = sym put ∙ y.1 in
        let same : joined.value ≡ y.0 = cc in subst (λ m. In (entry m) p c q) (sym same) y.2)
        (λ p c q y. (joined.value, put, y)) in
        are-through one (are-through (are-in best)
        (are-either (are-within same.1 same.0) (are-within (λ p c q y. (is, y)) (λ p c q y. y.1))))

    go : (w : ℕ) → (w ≡ k) ⊎ (w ≢ k) →
        AreBest (Waits (slice_set mid k (Some joined)) w) (Either (Waits old w) (Via to w f))
    go w (inl same) =
        subst (λ w. AreBest (Waits (slice_set mid k (Some joined)) w)
        (Either (Waits old w) (Via to w f))) (sym same) here
    go w (inr ne) =
        are-through (waits-same old (slice_set mid k (Some joined)) w
        (waits-set mid k w (Some joined) ne ∙ others w ne))
        (are-within (λ p c q y. inl y) (λ p c q y. elim y [
          | inl z ↦ z
          | inr z ↦
              absurd (ne (let e : Some k ≡ Some w = sym is ∙ z.0 in let n : k ≡ w = cc in sym n))
        ]))

-- the costs that wait at an index, joined with those of the frontier
pub joined-ahead : (f : FrontierModel) (k : ℕ) (first base joined : Matrix) (was : Option Matrix) →
    power_at f.waiting k ≡ was → IsTaken was first → base ≡ f.base →
    IsBest (entry joined) (Either (In (entry first)) (Then (In (entry base)) (Hops f.hops))) →
    IsBest (entry joined) (Ahead f k k)
joined-ahead f k first base joined was at taken is best = best-same there back best
  where
    same : Within (Waits f.waiting k) (In (entry first))
        × Within (In (entry first)) (Waits f.waiting k)
    same = holds f.waiting k first was at taken

    led : Within (Then (In (entry base)) (Hops f.hops)) (FrontierCosts f)
    led p c q t = subst (λ m. Then (In (entry m)) (Hops f.hops) p c q) is t

    un-led : Within (FrontierCosts f) (Then (In (entry base)) (Hops f.hops))
    un-led p c q t = subst (λ m. Then (In (entry m)) (Hops f.hops) p c q) (sym is) t

    there : Within (Either (In (entry first)) (Then (In (entry base)) (Hops f.hops))) (Ahead f k k)
    there p c q (inl y) = inl (same.1 p c q y)
    there p c q (inr y) = inr (refl, led p c q y)

    back : Within (Ahead f k k) (Either (In (entry first)) (Then (In (entry base)) (Hops f.hops)))
    back p c q (inl y) = inl (same.0 p c q y)
    back p c q (inr y) = inr (un-led p c q y.1)

no-hop : (n p d q : ℕ) → slice_index_or (replicate n None) p None ≡ some_hop d q → ⊥
no-hop zero p d q e = cc
no-hop (suc n) zero d q e = cc
no-hop (suc n) (suc p) d q e = no-hop n p d q e

-- a step appended to others
abbrev add-hop : ℕ → Option Hop → Option Hop
add-hop n o = option_map (λ k. record { cost = n + k.cost; position = k.position }) o

-- steps, composed with a table of steps
pub then-hops : (o : Positions) (lag : ℕ) (first row result : List (Option Hop)) →
    IsHops o lag row → length first ≡ 8 → length result ≡ 8 →
    ((p : ℕ) → p < 8 → slice_index_or result p None ≡ hop_chain (slice_index_or first p None) row) →
    (p d q : ℕ) → Hops result p d q ↔ Then (Hops first) (Steps o lag) p d q
then-hops o lag first row result h len len' each p d q =
    go (let z : (p < 8) ⊎ (8 ≤ p) = grind arith in z)
  where
    -- one step and another
    there : (a b : Option Hop) → slice_index_or first p None ≡ a →
        hop_chain a row ≡ Some (record { cost = d; position = q }) →
        Then (Hops first) (Steps o lag) p d q
    there None b is e = let none : ⊥ = cc in absurd none
    there (Some one) b is e = next (slice_index_or row one.position None) refl e
      where
        next : (s : Option Hop) → slice_index_or row one.position None ≡ s →
            add-hop one.cost s ≡ Some (record { cost = d; position = q }) →
            Then (Hops first) (Steps o lag) p d q
        next None at e = let none : ⊥ = cc in absurd none
        next (Some two) at e =
            let same : hop (one.cost + two.cost) two.position ≡ hop d q = cc in
            let sum : one.cost + two.cost ≡ d = ap (λ (h : Hop). h.cost) same in
            let lands : two.position ≡ q = ap (λ (h : Hop). h.position) same in
            record {
              at = one.position;
              one = one.cost;
              two = two.cost;
              first = is;
              second =
                  subst (λ q. Steps o lag one.position two.cost q) lands
                  (h.found one.position two.cost two.position at);
              cost = sym sum;
            }

    back : p < 8 → Then (Hops first) (Steps o lag) p d q → Hops result p d q
    back lt t =
        let step : slice_index_or row t.at None ≡ some_hop t.two q = h.all t.at t.two q t.second in
        let sum : t.one + t.two ≡ d = sym t.cost in
        each p lt ∙ (ap (λ a. hop_chain a row) t.first
        ∙ (ap (add-hop t.one) step ∙ ap (λ n. some_hop n q) sum))

    go : (p < 8) ⊎ (8 ≤ p) → Hops result p d q ↔ Then (Hops first) (Steps o lag) p d q
    go (inl lt) =
        ((λ e. there (slice_index_or first p None) None refl (sym (each p lt) ∙ e)), back lt)
    go (inr past) = (
      (λ e. absurd (let z : None ≡ some_hop d q = sym (get_or_past result p None (omega arith))
          ∙ e in let n : ⊥ = cc in n)),
      (λ t. absurd (let z : None ≡ some_hop t.one t.at = sym
          (get_or_past first p None (omega arith)) ∙ t.first in let n : ⊥ = cc in n)),
    )

pub still : (p d q : ℕ) → Hops (replicate 8 None) p d q → ⊥
still p d q e = no-hop 8 p d q e

-- the frontier went on to the next word by the turns
pub led-turns : (o : Positions) (next : Option ℕ) (lag k : ℕ) (old : FrontierModel) (row : HopRow) →
    lag ≤ 3 → length o.frame ≤ 8 → IsHops o lag row.hops → next ≡ Some (k + 1) →
    IsLed o None next lag k old (record { waiting = old.waiting; base = old.base; hops = row.hops })
led-turns o next lag k old row small frame h is = record {
  count = refl;
  base = refl;
  positions = hops-positions o lag row.hops frame h;
  short = λ p d q e. step-short o lag p d q small frame (h.found p d q e);
  ahead =
      λ w up. are-either (are-within (λ p c q y. y) (λ p c q y. y)) (are-within (there w) (back w));
}
  where
    there : (w : ℕ) →
        Within (λ p c q. (w ≡ k + 1) × Then (In (entry old.base)) (Hops row.hops) p c q)
        (Via next w (Then (In (entry old.base)) (Steps o lag)))
    there w p c q (same, t) = (
      is ∙ ap Some (sym same),
      record {
        at = t.at;
        one = t.one;
        two = t.two;
        first = t.first;
        second = h.found t.at t.two q t.second;
        cost = t.cost;
      },
    )

    back : (w : ℕ) → Within (Via next w (Then (In (entry old.base)) (Steps o lag)))
        (λ p c q. (w ≡ k + 1) × Then (In (entry old.base)) (Hops row.hops) p c q)
    back w p c q (at, t) = (
      (let both : Some (k + 1) ≡ Some w = sym is ∙ at in let n : k + 1 ≡ w = cc in sym n),
      record {
        at = t.at;
        one = t.one;
        two = t.two;
        first = t.first;
        second = h.all t.at t.two q t.second;
        cost = t.cost;
      },
    )

-- a frontier without steps adds nothing to the costs that wait
pub no-led : (f : FrontierModel) (n w : ℕ) → ((p d q : ℕ) → Hops f.hops p d q → ⊥) →
    AreBest (Ahead f n w) (Waits f.waiting w)
no-led f n w none =
    are-within
    (λ p c q y. elim y [ inl z ↦ z | inr z ↦ absurd (let t = z.1 in none t.at t.two q t.second) ])
    (λ p c q y. inl y)

pub led-waits : (o : Positions) (edge_costs : Option Matrix) (next : Option ℕ) (lag k : ℕ)
    (old new : FrontierModel) → IsBrought next (Then (In (entry old.base)) (move_costs o
    edge_costs lag))
    (record { waiting = old.waiting; base = old.base; hops = replicate 8 None }) new →
    IsLed o edge_costs next lag k old new
led-waits o edge_costs next lag k old new b = record {
  count = b.count;
  base = b.base;
  positions = λ p d q h. absurd (none p d q h);
  short = λ p d q h. absurd (none p d q h);
  ahead = λ w up. are-through (no-led new (k + 1) w none) (b.waits w);
}
  where
    none : (p d q : ℕ) → Hops new.hops p d q → ⊥
    none = subst (λ r. (p d q : ℕ) → Hops r p d q → ⊥) (sym b.hops) still

-- then the other edge
pub led-on : (t : Tree) (o : Positions) (edge_costs : Option Matrix)
    (k last : ℕ) (old mid new : FrontierModel) →
    let e = edges_at t k in IsLed o edge_costs (up_of t k last e.next) e.next_lag k old mid →
    IsBrought (up_of t k last e.jump) (Then (In (entry mid.base)) (move_costs o edge_costs
    3)) mid new →
    IsGone t o edge_costs e k last old new
led-on t o edge_costs k last old mid new l b = record {
  count = b.count ∙ l.count;
  base = b.base ∙ l.base;
  positions = subst (λ r. (p d q : ℕ) → Hops r p d q → (p < 8) × (q < 8)) (sym b.hops) l.positions;
  short = subst (λ r. (p d q : ℕ) → Hops r p d q → d ≤ 10) (sym b.hops) l.short;
  ahead = λ w up. are-through (there w) (are-either (l.ahead w up) (brings w));
}
  where
    e : EdgesOf
    e = edges_at t k

    Brings3 : ℕ → Costs
    Brings3 w = Via (up_of t k last e.jump) w (Then (In (entry mid.base)) (move_costs o
        edge_costs 3))

    brings : (w : ℕ) → AreBest (Brings3 w)
        (Via (up_of t k last e.jump) w (Then (In (entry old.base)) (move_costs o edge_costs 3)))
    brings w =
        subst (λ m. AreBest (Brings3 w)
        (Via (up_of t k last e.jump) w (Then (In (entry m)) (move_costs o edge_costs 3)))) l.base
        (are-within (λ p c q y. y) (λ p c q y. y))

    led : (w : ℕ) → Within (λ p c q. (w ≡ k + 1) × FrontierCosts new p c q)
        (λ p c q. (w ≡ k + 1) × FrontierCosts mid p c q)
    led w p c q (same, y) = (
      same,
      subst (λ r. Then (In (entry mid.base)) (Hops r) p c q) b.hops
          (subst (λ m. Then (In (entry m)) (Hops new.hops) p c q) b.base y),
    )

    un-led : (w : ℕ) → Within (λ p c q. (w ≡ k + 1) × FrontierCosts mid p c q)
        (λ p c q. (w ≡ k + 1) × FrontierCosts new p c q)
    un-led w p c q (same, y) = (
      same,
      subst (λ m. Then (In (entry m)) (Hops new.hops) p c q) (sym b.base)
          (subst (λ r. Then (In (entry mid.base)) (Hops r) p c q) (sym b.hops) y),
    )

    there : (w : ℕ) → AreBest (Ahead new (k + 1) w) (Either (Ahead mid (k + 1) w) (Brings3 w))
    there w =
        are-through (are-either (b.waits w) (are-within (led w) (un-led w)))
        (are-within swap swap-back)
      where
        swap : Within (Either (Either (Waits mid.waiting w) (Brings3 w)) (λ p c q. (w ≡ k + 1)
            × FrontierCosts mid p c q)) (Either (Ahead mid (k + 1) w) (Brings3 w))
        swap p c q (inl (inl y)) = inl (inl y)
        swap p c q (inl (inr y)) = inr y
        swap p c q (inr y) = inl (inr y)

        swap-back : Within (Either (Ahead mid (k + 1) w) (Brings3 w))
            (Either (Either (Waits mid.waiting w) (Brings3 w))
            (λ p c q. (w ≡ k + 1) × FrontierCosts mid p c q))
        swap-back p c q (inl (inl y)) = inl (inl y)
        swap-back p c q (inl (inr y)) = inr y
        swap-back p c q (inr y) = inl (inr y)

-- the costs of going on from a word lead to own positions
pub moved-own : (o : Positions) (word_costs : CostsOn) → AreWordCosts o word_costs →
    (k lag p d q : ℕ) (w : Option Matrix) → word_costs k ≡ w → move_costs o w lag p d q → IsOwn o q
moved-own o word_costs are k lag p d q None e m = m.own
moved-own o word_costs are k lag p d q (Some w) e m = are k w e p d q m

pub over-nested : (t : Tree) (o : Positions) (word_costs : CostsOn) → IsTree t → AreWordCosts o
    word_costs →
    IsNested (net (over t o word_costs))
over-nested t o word_costs is are =
    field-nested (over t o word_costs) (accepted t is)
    (λ u lag p d q m. moved-own o word_costs are (index t u) lag p d q (word_costs (index
    t u)) refl m)

-- the index of a target above
up-some : (t : Tree) (k last v : ℕ) → address t k < v → v ≤ address t last →
    up_of t k last (Some v) ≡ Some (index t v)
up-some t k last v a b =
    let x : nat_lt (address t k) v ≡ true = grind (arith, nat_tests) in
    let y : nat_le v (address t last) ≡ true = grind (arith, nat_tests) in rw (x, y) refl

pub up-is : (t : Tree) (k last : ℕ) (target : Option ℕ) (w : ℕ) → up_of t k last target ≡ Some w →
    (v : ℕ) × (target ≡ Some v) × (address t k < v) × (v ≤ address t last) × (w ≡ index t v)
up-is t k last None w e = cc
up-is t k last (Some v) w e = go (nat_lt (address t k) v) (nat_le v (address t last)) refl refl e
  where
    go : (a b : Bool) → nat_lt (address t k) v ≡ a → nat_le v (address t last) ≡ b →
        (if a && b then Some (index t v) else None) ≡ Some w →
        (u : ℕ) × (Some v ≡ Some u) × (address t k < u) × (u ≤ address t last) × (w ≡ index t u)
    go true true x y e = (
      v,
      refl,
      grind (arith, nat_tests),
      grind (arith, nat_tests),
      (let z : index t v ≡ w = cc in sym z),
    )
    go true false x y e = cc
    go false b x y e = cc

-- an edge to a target
target-is : (target : Option ℕ) (lag : ℕ) (e : Edge) → Contains (edge_to target lag) e →
    target ≡ Some e.to
target-is target lag e h = (edge-is target lag e h).0

-- one edge of the word at an index
brought : {x : Field} (t : Tree) {s : Scope} {f : Edges} {g h : Costs}
    (k last : ℕ) (target : Option ℕ) (lag : ℕ) → IsTree t →
    Reachable x.graph s.low → address t last ≤ s.high → last < length t.words →
    ((v : ℕ) → target ≡ Some v → v % 4 ≡ 0) → AreBest h (Reaches (net x) s (address t k)) →
    (w : ℕ) → k < w → w ≤ last → AreBest g (Comes x s f (address t w)) →
    AreBest (Either g (Via (up_of t k last target) w (Then h (x.move (address t k) lag))))
    (Comes x s (AndTo f (address t k) target lag) (address t w))
brought {x} t {s} {f} k last None lag is r top inside aligned best w up le before =
    are-through (via-other (λ e. cc)) (comes-same r (λ u e a ru y. inl y) (λ u e a ru y.
    elim y [ inl z ↦ z | inr z ↦ absurd (let y = z.1 in omega (arith, y.1)) ]) before)
brought {x} t {s} {f} {g} {h} k last (Some v) lag is r top inside aligned best w up le before =
    go (is_or_not v (address t w))
  where
    edge : Edge
    edge = record { to = v; lag = lag }

    Joined : Costs
    Joined = Either g (Via (up_of t k last (Some v)) w (Then h (x.move (address t k) lag)))

    other : v ≢ address t w →
        AreBest Joined (Comes x s (AndTo f (address t k) (Some v) lag) (address t w))
    other ne =
        are-through (via-other never) (comes-same r (λ u e a ru y. inl y) (λ u e a ru y. elim y [
          | inl z ↦ z
          | inr z ↦
              absurd (ne (let i : Some v ≡ Some e.to = target-is (Some v) lag e z.1 in
              let j : v ≡ e.to = cc in j ∙ a))
        ]) before)
      where
        never : up_of t k last (Some v) ≡ Some w → ⊥
        never e =
            let z = up-is t k last (Some v) w e in
            let i : Some v ≡ Some z.0 = z.1 in
            let j : v ≡ z.0 = cc in
            let l = address-lies t is.draft last inside in
            let lies : Lies (graph t) v =
            (let high = l.high in record { low = omega (arith, z.2); high = omega (arith, z.3) }) in
            let at : address t (index t v) ≡ v = index-address t is.draft v (aligned v refl) lies in
            ne (sym at ∙ ap (address t) (ap (index t) j ∙ sym z.4))

    this : v ≡ address t w →
        AreBest Joined (Comes x s (AndTo f (address t k) (Some v) lag) (address t w))
    this e =
        let above : address t k < v = omega arith in
        let below : v ≤ address t last = omega arith in
        let at : index t v ≡ w = ap (index t) e ∙ address-index t w in
        let all : AreBest Joined (Either (Comes x s f (address t w))
        (Then (Reaches (net x) s (address t k)) (x.move (address t k) lag))) = are-either before
        (via-there (up-some t k last v above below ∙ ap Some at) (are-then best)) in
        let all_v : AreBest Joined (Either (Comes x s f v)
        (Then (Reaches (net x) s (address t k)) (x.move (address t k) lag))) =
        subst (λ u. AreBest Joined (Either (Comes x s f u)
        (Then (Reaches (net x) s (address t k)) (x.move (address t k) lag)))) (sym e) all in
        let more : AreBest Joined (Comes x s (And f (address t k) edge) v) =
        comes-more (address t k) edge above (omega arith) all_v in
        subst (λ u. AreBest Joined (Comes x s (AndTo f (address t k) (Some v) lag) u)) e
        (comes-same r
        (λ u e' a ru y. elim y [
          | inl z ↦ inl z
          | inr z ↦ inr (
            z.0,
            subst (λ y. Contains (edge_to (Some v) lag) y) (sym z.1) (is-edge (Some v) lag v refl),
          )
        ])
        (λ u e' a ru y. elim y [ inl z ↦ inl z | inr z ↦ inr (z.0, one e' z.1) ]) more)
      where
        one : (e' : Edge) → Contains (edge_to (Some v) lag) e' → e' ≡ edge
        one e' h =
            let i = edge-is (Some v) lag e' h in
            let j : v ≡ e'.to = (let k : Some v ≡ Some e'.to = i.0 in cc) in
            λ z. record { to = sym j z; lag = i.1 z }

    go : (v ≡ address t w) ⊎ (v ≢ address t w) →
        AreBest Joined (Comes x s (AndTo f (address t k) (Some v) lag) (address t w))
    go (inl e) = this e
    go (inr ne) = other ne

-- both edges of the word at an index
both_edges : {x : Field} (t : Tree) {s : Scope} {a : Costs} (k w : ℕ) → IsTree t →
    x.graph ≡ graph t → Reachable x.graph s.low → let e = edges_at t k in
    AreBest a (Comes x s (AndTo (AndTo (Below x (address t k)) (address t k) e.next e.next_lag)
    (address t k) e.jump 3) (address t w)) →
    AreBest a (Comes x s (Below x (address t (k + 1))) (address t w))
both_edges {x} t {s} {a} k w is same r best = comes-same r there back best
  where
    e : EdgesOf
    e = edges_at t k

    edges : x.graph.edges (address t k) ≡ edge_to e.next e.next_lag ++ edge_to e.jump 3
    edges = ap (λ g. g.edges (address t k)) same

    there : (u : ℕ) (b : Edge) → b.to ≡ address t w → Reachable x.graph u →
        AndTo (AndTo (Below x (address t k)) (address t k) e.next e.next_lag)
        (address t k) e.jump 3 u b → Below x (address t (k + 1)) u b
    there u b a ru (inl (inl z)) = (omega (arith, z.0), z.1)
    there u b a ru (inl (inr z)) = (
      omega (arith, z.0),
      subst (λ u. Contains (x.graph.edges u) b) (sym z.0) (subst (λ l. Contains l b) (sym edges)
          (Contains-append_left (edge_to e.next e.next_lag) (edge_to e.jump 3) b z.1)),
    )
    there u b a ru (inr z) = (
      omega (arith, z.0),
      subst (λ u. Contains (x.graph.edges u) b) (sym z.0) (subst (λ l. Contains l b) (sym edges)
          (Contains-append_right (edge_to e.next e.next_lag) (edge_to e.jump 3) b z.1)),
    )

    back : (u : ℕ) (b : Edge) → b.to ≡ address t w →
        Reachable x.graph u → Below x (address t (k + 1)) u b →
        AndTo (AndTo (Below x (address t k)) (address t k) e.next e.next_lag)
        (address t k) e.jump 3 u b
    back u b a ru z =
        go
        (let au : u % 4 ≡ 0 = reachable-aligned t is.draft u (subst (λ g. Reachable g u) same ru) in
        let av = index-aligned t is k in
        let lt : u < address t (k + 1) = z.0 in
        let y : (u < address t k) ⊎ (u ≡ address t k) = grind arith in y)
      where
        at : u ≡ address t k →
            Contains (edge_to e.next e.next_lag) b ⊎ Contains (edge_to e.jump 3) b →
            AndTo (AndTo (Below x (address t k)) (address t k) e.next e.next_lag)
            (address t k) e.jump 3 u b
        at here (inl h) = inl (inr (here, h))
        at here (inr h) = inr (here, h)

        go : (u < address t k) ⊎ (u ≡ address t k) →
            AndTo (AndTo (Below x (address t k)) (address t k) e.next e.next_lag)
            (address t k) e.jump 3 u b
        go (inl below) = inl (inl (below, z.1))
        go (inr here) =
            at here (Contains-append_cases (edge_to e.next e.next_lag) (edge_to e.jump 3) b
            (subst (λ l. Contains l b) edges (subst (λ u. Contains (x.graph.edges u) b) here z.1)))

-- targets are multiples of four, and lags at most 3
pub next-aligned : (t : Tree) → IsTree t → (k v : ℕ) → (edges_at t k).next ≡ Some v → v % 4 ≡ 0
next-aligned t is k v e =
    edge-aligned (word_at t (address t k)) (address t k) (record { to = v; lag = w.next_lag })
    (index-aligned t is k) (Contains-append_left (edge_to w.next w.next_lag) (edge_to w.jump 3)
    (record { to = v; lag = w.next_lag }) (is-edge w.next w.next_lag v e))
  where
    w : EdgesOf
    w = edges_at t k

pub jump-aligned : (t : Tree) → IsTree t → (k v : ℕ) → (edges_at t k).jump ≡ Some v → v % 4 ≡ 0
jump-aligned t is k v e =
    edge-aligned (word_at t (address t k)) (address t k) (record { to = v; lag = 3 })
    (index-aligned t is k) (Contains-append_right (edge_to w.next w.next_lag) (edge_to w.jump 3)
    (record { to = v; lag = 3 }) (is-edge w.jump 3 v e))
  where
    w : EdgesOf
    w = edges_at t k

pub lag-small : (t : Tree) (k : ℕ) → (edges_at t k).next_lag ≤ 3
lag-small t k = next-short (word_at t (address t k)) (address t k)

-- the costs at the word at an index, if it is no head of a loop
plain : (t : Tree) (o : Positions) (word_costs : CostsOn) (s : Scope) (k : ℕ)
    (powers : Powers) {a : Costs} → IsReady (over t o word_costs) t s powers →
    power_at powers k ≡ None → AreBest a (Enters (net (over t o word_costs)) s (address t k)) →
    AreBest a (Reaches (net (over t o word_costs)) s (address t k))
plain t o word_costs s k powers y e entered = reach-plain y.part no_head y.reached entered
  where
    no_head : (j : LoopSetup) → s.loops j → Reachable (graph t) (address t k) → address t k ≢ j.head
    no_head j known rv head =
        let some = y.rounds.some j known (subst (λ v. Reachable (graph t) v) head rv) in
        let at : index t j.head ≡ k = ap (index t) (sym head) ∙ address-index t k in
        let z : power_at powers k ≡ Some some.0 = ap (power_at powers) (sym at) ∙ some.1 in
        let w : None ≡ Some some.0 = sym e ∙ z in
        let none : ⊥ = cc in none

entered : (t : Tree) (o : Positions) (word_costs : CostsOn) (s : Scope) (k : ℕ)
    (f : FrontierModel) (powers : Powers) → IsTree t → IsReady (over t o word_costs) t s powers →
    IsFrontier (over t o word_costs) t s k f → address t k ≤ s.high → k < length t.words →
    AreBest (Ahead f k k) (Enters (net (over t o word_costs)) s (address t k))
entered t o word_costs s k f powers is y p high within =
    are-same (comes-enters y.reached (address-lies t is.draft k within)) enters-comes
    (p.ahead k (omega arith) high)

-- at a word of straight code
pub straight : (t : Tree) (o : Positions) (word_costs : CostsOn) (s : Scope) (k : ℕ)
    (f : FrontierModel) (powers : Powers) → IsTree t → IsReady (over t o word_costs) t s powers →
    IsFrontier (over t o word_costs) t s k f → address t k ≤ s.high → k < length t.words →
    power_at powers k ≡ None → power_at f.waiting k ≡ None →
    AreBest (FrontierCosts f) (Reaches (net (over t o word_costs)) s (address t k))
straight t o word_costs s k f powers is y p high within none empty =
    plain t o word_costs s k powers y none
    (are-through led (entered t o word_costs s k f powers is y p high within))
  where
    led : AreBest (FrontierCosts f) (Ahead f k k)
    led = are-within (λ p c q z. inr (refl, z)) (λ p c q z. elim z [
      | inl m ↦ absurd (let e : None ≡ Some m.0 = sym empty ∙ m.1 in let n : ⊥ = cc in n)
      | inr l ↦ l.1
    ])

-- the costs at a word where the frontier's costs were collected
pub arrived : (t : Tree) (o : Positions) (word_costs : CostsOn) (s : Scope) (k : ℕ)
    (f new : FrontierModel) (powers : Powers) → IsTree t → IsReady (over t o word_costs)
    t s powers →
    IsFrontier (over t o word_costs) t s k f → s.low ≤ address t k → address t k ≤ s.high →
    k < length t.words → IsArrived (power_at powers k) k f new →
    IsBest (entry new.base) (Reaches (net (over t o word_costs)) s (address t k))
arrived t o word_costs s k f new powers is y p low high within a = go (power_at powers
    k) refl a.here
  where
    x : Field
    x = over t o word_costs

    here : Matrix
    here = new.base

    joined : IsBest (entry a.joined) (Enters (net x) s (address t k))
    joined = best-through a.best (entered t o word_costs s k f powers is y p high within)

    go : (power : Option Matrix) → power_at powers k ≡ power → MatchOption power (here ≡ a.joined)
        (λ m. IsBest (entry here) (Then (In (entry a.joined)) (In (entry m)))) →
        IsBest (entry here) (Reaches (net x) s (address t k))
    go None e same =
        subst (λ m. IsBest (entry m) (Reaches (net x) s (address t k))) (sym same)
        (best-through joined
        (plain t o word_costs s k powers y e (are-within (λ p c q z. z) (λ p c q z. z))))
    go (Some m) e best = found (y.rounds.only k m low high e)
      where
        found : (j : LoopSetup) × s.loops j × (address t k ≡ j.head) × Reachable (graph t)
            (address t k) → IsBest (entry here) (Reaches (net x) s (address t k))
        found (j, known, head, rv) =
            let some = y.rounds.some j known (subst (λ v. Reachable (graph t) v) head rv) in
            let at : index t j.head ≡ k = ap (index t) (sym head) ∙ address-index t k in
            let z : power_at powers k ≡ Some some.0 = ap (power_at powers) (sym at) ∙ some.1 in
            let w : Some some.0 ≡ Some m = sym z ∙ e in
            let same : some.0 ≡ m = cc in
            let rounds : IsBest (entry m) (Rounds (net x) j j.limit) =
            subst (λ m. IsBest (entry m) (Rounds (net x) j j.limit)) same some.2 in
            let entered_j : IsBest (entry a.joined) (Enters (net x) s j.head) =
            subst (λ u. IsBest (entry a.joined) (Enters (net x) s u)) head joined in
            subst (λ u. IsBest (entry here) (Reaches (net x) s u)) (sym head)
            (reach-head j y.nested y.part y.reached known entered_j (λ _. rounds) best)

-- an edge up leads to a later index of the part
pub up-within : (t : Tree) → IsTree t → (k last : ℕ) (target : Option ℕ) →
    ((v : ℕ) → target ≡ Some v → v % 4 ≡ 0) → last < length t.words →
    IfSome (up_of t k last target) (λ w. (k < w) × (w < length t.words))
up-within t is k last target aligned inside = go (up_of t k last target) refl
  where
    go : (o : Option ℕ) → up_of t k last target ≡ o → IfSome o (λ w. (k < w) × (w < length t.words))
    go None e = tt
    go (Some w) e =
        let z = up-is t k last target w e in
        let lt : address t k < z.0 = z.2 in
        let le : z.0 ≤ address t last = z.3 in
        let same : w ≡ index t z.0 = z.4 in
        let a : z.0 % 4 ≡ 0 = aligned z.0 z.1 in
        let b = index-aligned t is k in
        (omega arith, omega arith)

-- ahead of the next word
stepped : (t : Tree) (o : Positions) (word_costs : CostsOn) (s : Scope) (first last k : ℕ)
    (waiting : Powers) (new : FrontierModel) (h : Costs) → IsTree t → Reachable (graph t) s.low →
    IsSpan t s first last → k ≤ last → let x = over t o word_costs in
    let e = edges_at t k in
    ((w : ℕ) → k < w → address t w ≤ s.high →
    AreBest (Waits waiting w) (Comes x s (Below x (address t k)) (address t w))) →
    AreBest h (Reaches (net x) s (address t k)) →
    ((w : ℕ) → k < w → AreBest (Ahead new (k + 1) w) (Either (Either (Waits waiting w)
    (Via (up_of t k last e.next) w (Then h (move_costs o (word_costs k) e.next_lag))))
    (Via (up_of t k last e.jump) w (Then h (move_costs o (word_costs k) 3))))) →
    (w : ℕ) → k + 1 ≤ w → address t w ≤ s.high →
    AreBest (Ahead new (k + 1) w) (Comes x s (Below x (address t (k + 1))) (address t w))
stepped t o word_costs s first last k waiting new h is r sp le before best goes w up high =
    let lt : k < w = omega arith in
    let top : address t w ≤ address t last = sp.top (address t w) (index-aligned t is w) high in
    let within : w ≤ last = omega arith in
    let same : index t (address t k) ≡ k = address-index t k in
    let there = subst (λ n. AreBest (Ahead new (k + 1) w) (Either (Either (Waits waiting w)
    (Via (up_of t k last e.next) w (Then h (move_costs o (word_costs n) e.next_lag))))
    (Via (up_of t k last e.jump) w (Then h (move_costs o (word_costs n) 3))))) (sym same)
    (goes w lt) in
    both_edges t k w is refl r (are-through there
    (brought t k last e.jump 3 is r sp.within sp.inside (jump-aligned t is k) best w lt within
    (brought t k last e.next e.next_lag is r sp.within sp.inside
    (next-aligned t is k) best w lt within (before w lt high))))
  where
    e : EdgesOf
    e = edges_at t k

waits-before : (t : Tree) (o : Positions) (word_costs : CostsOn) (s : Scope) (k : ℕ)
    (f : FrontierModel) (waiting : Powers) → IsFrontier (over t o word_costs) t s k f →
    ((w : ℕ) → w ≢ k → power_at waiting w ≡ power_at f.waiting w) →
    (w : ℕ) → k < w → address t w ≤ s.high → AreBest (Waits waiting w)
    (Comes (over t o word_costs) s (Below (over t o word_costs) (address t k)) (address t w))
waits-before t o word_costs s k f waiting p others w up high =
    are-through (waits-same f.waiting waiting w (others w (omega arith)))
    (are-through (are-within (λ p c q z. inl z) (λ p c q z.
    elim z [ inl y ↦ y | inr y ↦ absurd (omega (arith, y.0)) ])) (p.ahead w (omega arith) high))

-- the frontier went on from a word where its costs were collected
pub gone : (t : Tree) (o : Positions) (word_costs : CostsOn) (s : Scope) (first last k : ℕ)
    (f here new : FrontierModel) (powers : Powers) → IsTree t → IsReady (over t o word_costs)
    t s powers →
    IsSpan t s first last → first ≤ k → k ≤ last → IsFrontier (over t o word_costs) t s k f →
    IsArrived (power_at powers k) k f here → IsGone t o (word_costs k) (edges_at t k) k
    last here new →
    IsFrontier (over t o word_costs) t s (k + 1) new
gone t o word_costs s first last k f here new powers is y sp from le p a g = record {
  count = g.count ∙ (a.count ∙ p.count);
  positions = g.positions;
  short = λ p d q h. let z = g.short p d q h in omega arith;
  ahead =
      stepped t o word_costs s first last k here.waiting new (In (entry here.base)) is
      y.reached sp le
      (waits-before t o word_costs s k f here.waiting p a.others)
      (are-in (arrived t o word_costs s k f here powers is y p (omega (arith, sp.low))
      (omega (arith, sp.within)) (omega (arith, sp.inside)) a)) g.ahead;
}

-- the frontier passed a word of straight code
pub skipped : (t : Tree) (o : Positions) (word_costs : CostsOn) (s : Scope) (first last k : ℕ)
    (f new : FrontierModel) (powers : Powers) → IsTree t → IsReady (over t o word_costs)
    t s powers →
    IsSpan t s first last → first ≤ k → k ≤ last → IsFrontier (over t o word_costs) t s k f →
    IsStraight t (edges_at t k) k last (word_costs k) (power_at powers k) f →
    IsSkipped o (edges_at t k).next_lag f new → IsFrontier (over t o word_costs) t s (k + 1) new
skipped t o word_costs s first last k f new powers is y sp from le p z g = record {
  count = ap length g.waiting ∙ p.count;
  positions = λ a d b h. let u = (g.hops a d b).0 h in (
    (p.positions a u.one u.at u.first).0,
    (let w = u.second.own.within in let f8 = g.frame in omega arith),
  );
  short =
      λ a d b h. let u = (g.hops a d b).0 h in
      let one = p.short a u.one u.at u.first in
      let two : u.two ≤ 10 =
      step-short o e.next_lag u.at u.two b (lag-small t k) g.frame u.second in
      omega (arith, u.cost);
  ahead =
      stepped t o word_costs s first last k f.waiting new (FrontierCosts f) is y.reached sp le
      (waits-before t o word_costs s k f f.waiting p (λ w ne. refl))
      (straight t o word_costs s k f powers is y p (omega (arith, sp.within))
      (omega (arith, sp.inside)) z.no_power z.waits) (λ w up. are-within (there w) (back w));
}
  where
    e : EdgesOf
    e = edges_at t k

    Goes : ℕ → Costs
    Goes w =
        Either (Either (Waits f.waiting w)
        (Via (up_of t k last e.next) w (Then (FrontierCosts f) (move_costs o (word_costs k)
        e.next_lag))))
        (Via (up_of t k last e.jump) w (Then (FrontierCosts f) (move_costs o (word_costs k) 3)))

    turned : (p c q : ℕ) → Steps o e.next_lag p c q → move_costs o (word_costs k) e.next_lag p c q
    turned p c q h = subst (λ m. move_costs o m e.next_lag p c q) (sym z.no_way) h

    turns : (p c q : ℕ) → move_costs o (word_costs k) e.next_lag p c q → Steps o e.next_lag p c q
    turns p c q h = subst (λ m. move_costs o m e.next_lag p c q) z.no_way h

    led : Within (FrontierCosts new) (Then (FrontierCosts f) (move_costs o (word_costs k)
        e.next_lag))
    led p c q l =
        let u = (g.hops l.at l.two q).0 l.second in
        record {
          at = u.at;
          one = l.one + u.one;
          two = u.two;
          first = record {
            at = l.at;
            one = l.one;
            two = u.one;
            first = subst (λ (b : Matrix). In (entry b) p l.one l.at) g.base l.first;
            second = u.first;
            cost = refl;
          };
          second = turned u.at u.two q u.second;
          cost = omega (arith, l.cost, u.cost);
        }

    led-back : Within (Then (FrontierCosts f) (move_costs o (word_costs k) e.next_lag))
        (FrontierCosts new)
    led-back p c q l =
        let m = l.first in
        record {
          at = m.at;
          one = m.one;
          two = m.two + l.two;
          first = subst (λ (b : Matrix). In (entry b) p m.one m.at) (sym g.base) m.first;
          second = (g.hops m.at (m.two + l.two) q).1 (record {
            at = l.at;
            one = m.two;
            two = l.two;
            first = m.second;
            second = turns l.at l.two q l.second;
            cost = refl;
          });
          cost = omega (arith, l.cost, m.cost);
        }

    there : (w : ℕ) → Within (Ahead new (k + 1) w) (Goes w)
    there w p c q (inl m) =
        inl (inl (m.0, subst (λ (v : Powers). power_at v w ≡ Some m.0) g.waiting m.1, m.2))
    there w p c q (inr l) = inl (inr (z.next ∙ ap Some (sym l.0), led p c q l.1))

    back : (w : ℕ) → Within (Goes w) (Ahead new (k + 1) w)
    back w p c q (inl (inl m)) =
        inl (m.0, subst (λ (v : Powers). power_at v w ≡ Some m.0) (sym g.waiting) m.1, m.2)
    back w p c q (inl (inr l)) = inr (
      (let both : Some (k + 1) ≡ Some w = sym z.next ∙ l.0 in let n : k + 1 ≡ w = cc in sym n),
      led-back p c q l.1,
    )
    back w p c q (inr l) =
        absurd (let none : None ≡ Some w = ap (up_of t k last) (sym z.jump) ∙ l.0 in
        let n : ⊥ = cc in n)

-- the pass begins
pub begun : (t : Tree) (o : Positions) (word_costs : CostsOn) (s : Scope) (first last k : ℕ)
    (waiting : Powers) (one : Box Matrix Global) (f : FrontierModel) → IsTree t →
    IsScope (net (over t o word_costs)) s → IsSpan t s first last → s.low ≡ address t k →
    length waiting ≡ length t.words → ((w : ℕ) → first ≤ w → w ≤ last → power_at waiting w ≡ None) →
    IsBest (entry one.value) (Stays (IsOwn o)) → f.waiting ≡ slice_set waiting first (Some one) →
    ((p d q : ℕ) → Hops f.hops p d q → ⊥) → IsFrontier (over t o word_costs) t s k f
begun t o word_costs s first last k waiting one f is part sp low count none best put
    still = record {
      count = ap length put ∙ (length-set waiting first (Some one) ∙ count);
      positions = λ p d q h. absurd (still p d q h);
      short = λ p d q h. absurd (still p d q h);
      ahead =
          λ w from high.
          go w from high (let e = sp.low in let y : (w ≡ first) ⊎ (first < w) = grind arith in y);
    }
  where
    x : Field
    x = over t o word_costs

    nothing_yet : (v p c q : ℕ) → Brings x s (Below x (address t k)) v p c q → ⊥
    nothing_yet v p c q b = let z = above part b.walk.walk in let y = b.edge.0 in omega arith

    placed : (w : ℕ) → w ≢ first → power_at f.waiting w ≡ power_at waiting w
    placed w ne = ap (λ l. power_at l w) put ∙ waits-set waiting first w (Some one) ne

    there : power_at f.waiting first ≡ Some one.value
    there =
        ap (λ l. power_at l first) put
        ∙ waits-put waiting first (Some one) (let i = sp.inside in let j = sp.order in omega arith)

    go : (w : ℕ) → k ≤ w → address t w ≤ s.high → (w ≡ first) ⊎ (first < w) →
        AreBest (Ahead f k w) (Comes x s (Below x (address t k)) (address t w))
    go w from high (inl same) =
        let at : address t w ≡ s.low = ap (address t) same ∙ sym sp.low in
        let there_w : power_at f.waiting w ≡ Some one.value =
        ap (power_at f.waiting) same ∙ there in
        are-through (are-within
        (λ p c q z. elim z [
          | inl m ↦
              (let e : Some one.value ≡ Some m.0 = sym there_w ∙ m.1 in
              let same : one.value ≡ m.0 = cc in subst (λ m. In (entry m) p c q) (sym same) m.2)
          | inr l ↦ absurd (let h = l.1 in still h.at h.two q h.second)
        ])
        (λ p c q z. inl (one.value, there_w, z)))
        (are-same (λ p c q z. inl (at, z)) (λ p c q z.
        elim z [ inl y ↦ y.1 | inr b ↦ absurd (nothing_yet (address t w) p c q b) ]) (are-in best))
    go w from high (inr up) =
        let none_w : power_at f.waiting w ≡ None =
        placed w (omega arith) ∙ none w (omega arith) (let top : address t w
        ≤ address t last = sp.top (address t w) (index-aligned t is w) high in omega arith) in
        are-within
        (λ p c q z. elim z [
          | inl m ↦ absurd (let e : None ≡ Some m.0 = sym none_w ∙ m.1 in let n : ⊥ = cc in n)
          | inr l ↦ absurd (let h = l.1 in still h.at h.two q h.second)
        ])
        (λ p c q z. elim z [
          | inl y ↦ absurd (let e : address t w ≡ s.low = y.0 in let l = sp.low in omega arith)
          | inr b ↦ absurd (nothing_yet (address t w) p c q b)
        ])

-- the matrix without sums
get-row : (n p q : ℕ) →
    slice_index_or (slice_index_or (replicate n (replicate 8 nothing)) p []) q nothing ≡ nothing
get-row zero p q = refl
get-row (suc n) zero q = get-none 8 q
get-row (suc n) (suc p) q = get-row n p q

pub none-entry : (p q c : ℕ) →
    entry (record { best = replicate 8 (replicate 8 None) }) p q ≡ Some c → ⊥
none-entry p q c e =
    let r = entry-range (record { best = replicate 8 (replicate 8 None) }) p q c e in
    let y : slice_index_or (slice_index_or (replicate 8 (replicate 8 None)) p []) q None ≡ Some c =
    sym (entry-in (record { best = replicate 8 (replicate 8 None) }) p q r.0 r.1) ∙ e in
    let z : nothing ≡ Some c = sym (get-row 8 p q) ∙ y in
    cc

pub cleared : (waiting : Powers) (k w : ℕ) → w < length waiting → (k < w) ⊎ (k ≡ w) →
    (k < w → power_at waiting k ≡ None) → power_at (slice_set waiting w None) k ≡ None
cleared waiting k w lt (inl below) before = waits-set waiting w k None (omega arith) ∙ before below
cleared waiting k w lt (inr same) before =
    ap (power_at (slice_set waiting w None)) same ∙ waits-put waiting w None lt

-- the span of a part
pub span-whole : (t : Tree) (o : Positions) (word_costs : CostsOn) (last : ℕ) → IsTree t →
    last ≡ (t.section.to - t.section.from) / 4 - 1 → IsSpan t (whole (over t o word_costs)) 0 last
span-whole t o word_costs last is e =
    let w = is.draft.words in
    let a = is.draft.section.from_aligned in
    let b = is.draft.section.to_aligned in
    let c = is.draft.section.order in
    record {
      low = omega arith;
      within = omega arith;
      top = λ v d h. (let h' : v ≤ t.section.to - 1 = h in omega arith);
      order = omega arith;
      inside = omega arith;
    }

pub span-body : (t : Tree) (o : Positions) (word_costs : CostsOn) (j : LoopSetup) → IsTree t →
    Contains t.loops j → IsSpan t (body (net (over t o word_costs)) j) ((j.head -
    t.section.from) / 4)
    ((j.last - t.section.from) / 4)
span-body t o word_costs j is known =
    let w = is.draft.words in
    let a = is.draft.section.from_aligned in
    let b = is.draft.section.to_aligned in
    let l = is.draft.loops j known in
    let c = is.draft.counting j known in
    let head = l.head_aligned in
    let last = l.last_aligned in
    let order = l.ordered in
    record {
      low = omega arith;
      within = omega arith;
      top = λ v d h. (let h' : v ≤ j.last = h in omega arith);
      order = omega arith;
      inside = omega arith;
    }

-- as many words as indices
pub span-count : (t : Tree) (o : Positions) (word_costs : CostsOn) (first last : ℕ) → IsTree t →
    IsSpan t (whole (over t o word_costs)) first last → length t.words ≡ last + 1
span-count t o word_costs first last is sp =
    let w = is.draft.words in
    let a = is.draft.section.from_aligned in
    let b = is.draft.section.to_aligned in
    let c = is.draft.section.order in
    let top : t.section.to - 4 ≤ address t last =
    sp.top (t.section.to - 4) (omega arith) (omega arith) in
    omega (arith, sp.inside)

-- one more matrix
pub reach-more : (at : List Matrix) (n : ℕ) (m : Matrix) (f : ℕ → Costs) → length at ≡ n →
    ((k : ℕ) → k < n → IsBest (matrix_at at k) (f k)) → IsBest (entry m) (f n) → (k : ℕ) →
    k < n + 1 → IsBest (matrix_at (at ++ m ∷ []) k) (f k)
reach-more at n m f len before best k lt = go (let z : (k < n) ⊎ (k ≡ n) = grind arith in z)
  where
    here : slice_index_or (at ++ m ∷ []) n no_matrix ≡ m
    here =
        get_or-append_right at (m ∷ []) n n no_matrix len (omega arith)
        ∙ ap (λ i. slice_index_or (m ∷ []) i no_matrix) (let z : n - n ≡ 0 = omega arith in z)

    go : (k < n) ⊎ (k ≡ n) → IsBest (matrix_at (at ++ m ∷ []) k) (f k)
    go (inl below) =
        subst (λ a. IsBest (entry a) (f k))
        (sym (get_or_append_left at (m ∷ []) no_matrix k (omega arith))) (before k below)
    go (inr same) =
        subst (λ i. IsBest (matrix_at (at ++ m ∷ []) i) (f i)) (sym same)
        (subst (λ a. IsBest (entry a) (f n)) (sym here) best)

-- the matrix that an index reads from the powers
pub read-power : (powers : Powers) (k : ℕ) (r : Option (Box Matrix Global)) →
    r ≡ slice_index_or powers k r → k < length powers →
    power_at powers k ≡ option_map (λ b. b.value) r
read-power powers k r is lt =
    ap (λ o. option_map (λ b. b.value) o) (get_or_default powers k None r lt ∙ sym is)

pub always : (o : Option ℕ) (P : Type 0) → P → IfSome o (λ k. P)
always None P h = tt
always (Some k) P h = h
