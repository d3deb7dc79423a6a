-- The matrices of a function's words are the costs of its paths.
use Rattle.std.proofs.Common.{◌≡◌, ℕ, ◌+◌, ◌-◌, ◌*◌, ◌/◌, ◌<◌, ◌≤◌, ◌∙◌, refl, arith, inl}
use Rattle.std.proofs.Common.{inr, ap, sym, subst, suc, zero, min, Option, Some, None}
use Rattle.std.proofs.Common.{List, length, slice_index_or, Bool, true, false, nat_lt}
use Rattle.std.proofs.lemmas.List.{get_or-map}
use Rattle.std.proofs.lemmas.Bool.Decides.{nat_tests}
use Rattle.region_tree.specs.Graph.{Reachable}
use Rattle.region_tree.specs.Tree.{IsSection, IsTree}
use Rattle.region_tree.specs.Walk.{Positions}
use Rattle.region_tree.specs.declared.section.Section.{Section}
use Rattle.bound_calc.proofs.BestLaws.{best-then}
use Rattle.bound_calc.specs.Best.{Costs, Entries, In, IsBest, Then, ceiling}
use Rattle.bound_calc.specs.Matrices.{entry}
use Rattle.bound_calc.specs.Propagation.{AreReached, Ended, CostTable, CostsOn, matrix_at}
use Rattle.bound_calc.specs.Propagation.{no_matrix, matrix_of, index, costs_on}
use Rattle.bound_calc.specs.Section.{IsAccepted, Steps}
use Rattle.bound_calc.specs.declared.matrix.Matrix.{Matrix}
use Rattle.call_bounds.specs.declared.routines.Routine.{Routine}
use Rattle.call_bounds.specs.CallRefusals.{IsListing}
use Rattle.call_bounds.specs.Calls.{Calls, IsReached, Function, callee, function, range, returns}
use Rattle.call_bounds.specs.CallWalk.{Route}
use Rattle.call_bounds.specs.Listing.{DoesCall, Listing, calls, function_at, function_count}
use Rattle.call_bounds.specs.Patched.{function_tree}
use Rattle.call_bounds.specs.Runs.{Deep, Through}
use Rattle.call_bounds.specs.Functions.{IsCallee}
use Rattle.call_bounds.specs.Summaries.{AreCallees, AreReturns, AreSummaries, Ending}
use Rattle.call_bounds.specs.Summaries.{EndsAt, IsSummaryOf, KnowsCallees, route}
use Rattle.call_bounds.proofs.Agree.{reach}
use Rattle.call_bounds.proofs.AnyLaws.{Alike, best-alike}
use Rattle.call_bounds.proofs.Composed.{RunsTo, agrees-back, best-runs}
use Rattle.call_bounds.proofs.Facts.{functions, reached-listed}
use Rattle.call_bounds.proofs.RunNet.{netted}
use Rattle.call_bounds.proofs.ThroughBest.{through-best}
use Rattle.call_bounds.proofs.WordCosts.{IsEdgeOf}

-- the words of a function are a valid section
pub function-section : (x : Calls) (a : Function) → IsListing x → IsReached x a →
    IsSection (range x a)
function-section x None is r = is.section
function-section x (Some t) is r =
    let o = is.routines.each t (reached-listed x t r) in
    let a = o.head_aligned in let b = o.last_aligned in let c = o.order in let d = o.end in
    record {
      order = omega arith;
      from_aligned = o.head_aligned;
      to_aligned = omega arith;
      end = omega arith;
    }

-- the number of words of a section
abbrev pub count : Section → ℕ
count s = (s.to - s.from) / 4

-- the index of a reachable word
pub record IndexOf (x : Calls) (a : Function) (u : ℕ) : Type 0 where
  pub at : ℕ
  pub below : at < count (range x a)
  pub address : (range x a).from + 4 * at ≡ u
  pub is : index (function_tree x a) u ≡ at

pub placed : (x : Calls) (a : Function) (u : ℕ) → IsSection (range x a) →
    Reachable (function x a) u → IndexOf x a u
placed x a u is r =
    let z = reach (agrees-back x a is) r in
    let z1 = z.1 in let z2 = z.2 in let z3 = z.3 in
    let o = is.order in let f = is.from_aligned in let t = is.to_aligned in
    record {
      at = (u - (range x a).from) / 4;
      below = omega arith;
      address = omega arith;
      is = refl;
    }

-- the numbers of the routines
pub function-some : (l : Listing) (k : ℕ) → 0 < k → k < function_count l →
    (t : Routine) × (function_at l k ≡ Some t)
function-some l zero pos lt = absurd (omega arith)
function-some l (suc i) pos lt =
    (slice_index_or l.routines i none, get_or-map Some l.routines i none None (omega arith))
  where
    none : Routine
    none = record { head = 0; last = 0 }

picks : (costs : List Matrix) (i : ℕ) → i < length costs →
    matrix_of costs (Some i) ≡ Some (slice_index_or costs i no_matrix)
picks costs i lt = let b : nat_lt i (length costs) ≡ true = grind (arith, nat_tests) in rw b refl

-- by the numbers of the callees, each call has the matrix of its routine
pub holds : (l : Listing) (s : Positions) (n : ℕ) (f : Routine → Costs) (costs : List Matrix)
    (callees : List (Option ℕ)) → IsSection (range (calls l) (function_at l n)) →
    AreCallees l (range (calls l) (function_at l n)) (count (range (calls l) (function_at l
    n))) callees →
    length costs ≡ function_count l → ((k : ℕ) (t : Routine) → k < function_count l →
    function_at l k ≡ Some t → DoesCall (calls l) (function_at l n) (function_at l k) →
    IsBest (entry (slice_index_or costs k no_matrix)) (Then (Steps s 3) (f t))) → (u : ℕ) →
    Reachable (function (calls l) (function_at l n)) u → IsEdgeOf (route l s) f (callee (calls l)
    u) (costs_on
    (record { indices = callees; costs = costs }) (index (function_tree (calls l)
    (function_at l n)) u))
holds l s n f costs callees is are many known u r =
    go (slice_index_or callees p.at None)
    (subst (λ u. IsCallee l u (slice_index_or callees p.at None)) p.address (are.each p.at p.below))
    refl
  where
    p : IndexOf (calls l) (function_at l n) u
    p = placed (calls l) (function_at l n) u is r

    w : Option Matrix
    w =
        costs_on (record { indices = callees; costs = costs })
        (index (function_tree (calls l) (function_at l n)) u)

    edge_costs : (o : Option ℕ) → slice_index_or callees p.at None ≡ o → w ≡ matrix_of costs o
    edge_costs o e =
        ap (λ k. matrix_of costs (slice_index_or callees k None)) p.is ∙ ap (matrix_of costs) e

    go : (o : Option ℕ) → IsCallee l u o → slice_index_or callees p.at None ≡ o →
        IsEdgeOf (route l s) f (callee (calls l) u) w
    go None h e = subst (λ o. IsEdgeOf (route l s) f o w) (sym h) (edge_costs None e)
    go (Some i) h e =
        let t = function-some l i h.0 h.1 in
        let to : callee (calls l) u ≡ Some t.0 = h.2 ∙ t.1 in
        subst (λ o. IsEdgeOf (route l s) f o w) (sym to) (
          slice_index_or costs i no_matrix,
          edge_costs (Some i) e ∙ picks costs i (omega (arith, h.1)),
          known i t.0 h.1 t.1 (record { routine = t.0; word = u; known = r; call = to; to = t.1 }),
        )

-- the facts after a pass over the words of a function
pub record Gone (x : Route) (a : Function) (at : List Matrix) : Type 0 where
  pub section : IsSection (range x.calls a)
  pub accepted : IsAccepted (function x.calls a)
  pub best : (k : ℕ) → k < count (range x.calls a) →
      IsBest (matrix_at at k) (RunsTo x a ((range x.calls a).from + 4 * k))

-- the last word of a path has an index, with its best cost
pub record RunAt (x : Route) (a : Function) (at : List Matrix) (u p c q : ℕ) : Type 0 where
  pub word : Reachable (function x.calls a) u
  pub index : IndexOf x.calls a u
  pub cost : ℕ
  pub is : matrix_at at index.at p q ≡ Some cost
  pub covers : min c ceiling ≤ cost

pub run-at : (x : Route) (a : Function) (at : List Matrix) {u p c q : ℕ} → Gone x a at →
    RunsTo x a u p c q → RunAt x a at u p c q
run-at x a at {u} {p} {c} {q} g r =
    let word = (netted x g.accepted r.run).word in
    let y = placed x.calls a u g.section word in
    let e = (g.best y.at y.below).0 p c q (subst (λ u. RunsTo x a u p c q) (sym y.address) r) in
    record { word = word; index = y; cost = e.0; is = e.1; covers = e.2 }

sum-covers : (a b c one two n : ℕ) → min a n ≤ one → min b n ≤ two → c ≡ a + b → min c n ≤ one + two
sum-covers a b c one two n h1 h2 is = omega arith

sum-among : (a b c one two n : ℕ) → min one n ≡ min a n → min two n ≡ min b n → c ≡ one + two →
    min c n ≡ min (a + b) n
sum-among a b c one two n h1 h2 is = omega arith

ends-here : (w : Option Matrix) (here : Entries) {p c q : ℕ} → In here p c q → EndsAt w here p c q
ends-here None here h = h
ends-here (Some m) here h = inl h

ends-on : (w : Option Matrix) (m : Matrix) (here : Entries) {p c q : ℕ} → w ≡ Some m →
    Then (In here) (In (entry m)) p c q → EndsAt w here p c q
ends-on w m here {p} {c} {q} e t = subst (λ w. EndsAt w here p c q) (sym e) (inr t)

-- The costs at the words, and on through the matrices of their calls. They are those of paths that
-- end in the function or one that it calls.
pub deep-alike : (x : Route) (a : Function) (at : List Matrix) (into : CostsOn) → Gone x a at →
    ((u : ℕ) → Reachable (function x.calls a) u →
    IsEdgeOf x (λ t. Deep x (Some t)) (callee x.calls u) (into (index (function_tree x.calls a) u)))
    →
    Alike (Deep x a) (Ending into at (count (range x.calls a)))
deep-alike x a at into g word_costs =
    record { covers = covers; among = λ p e q y. among p e q y.0 y.1 (into y.0) refl y.2 }
  where
    covers : (p c q : ℕ) → Deep x a p c q →
        (e : ℕ) × Ending into at (count (range x.calls a)) p e q × (min c ceiling ≤ e)
    covers p c q (Deep.ends {k = k} run) =
        let y = run-at x a at g (record { counters = k; run = run }) in (
          y.cost,
          (y.index.at, y.index.below, ends-here (into y.index.at) (matrix_at at y.index.at) y.is),
          y.covers,
        )
    covers p c q (Deep.enters {u = u} {q = v} {c = one} {d = d}
        {r = r} {i = i} {k = k} {t = t} run to turn deep) =
        let y = run-at x a at g (record { counters = k; run = run }) in
        let w : IsEdgeOf x (λ t. Deep x (Some t)) (Some t) (into y.index.at) =
        subst (λ k. IsEdgeOf x (λ t. Deep x (Some t)) (Some t) (into k)) y.index.is
        (subst (λ o. IsEdgeOf x (λ t. Deep x (Some t)) o (into (index (function_tree x.calls a) u)))
        to
        (word_costs u y.word)) in
        let e = w.2.0 v (d + i) q
        (record { at = r; one = d; two = i; first = turn; second = deep; cost = refl }) in (
          y.cost + e.0,
          (
            y.index.at,
            y.index.below,
            ends-on (into y.index.at) w.0 (matrix_at at y.index.at) w.1 (record {
              at = v;
              one = y.cost;
              two = e.0;
              first = y.is;
              second = e.1;
              cost = refl;
            }),
          ),
          sum-covers one (d + i) (one + (d + i)) y.cost e.0 ceiling y.covers e.2 refl,
        )

    run : (p e q k : ℕ) → k < count (range x.calls a) → matrix_at at k p q ≡ Some e → (c : ℕ)
        × RunsTo x a ((range x.calls a).from + 4 * k) p c q × (min e ceiling ≡ min c ceiling)
    run p e q k lt is = (g.best k lt).1 p e q is

    on : (p e q k : ℕ) (m : Matrix) → k < count (range x.calls a) →
        into k ≡ Some m → Then (In (matrix_at at k)) (In (entry m)) p e q →
        (c : ℕ) × Deep x a p c q × (min e ceiling ≡ min c ceiling)
    on p e q k m lt is t = go (callee x.calls ((range x.calls a).from + 4 * k)) refl w
      where
        y : (c : ℕ) × RunsTo x a ((range x.calls a).from + 4 * k) p c t.at
            × (min t.one ceiling ≡ min c ceiling)
        y = run p t.one t.at k lt t.first

        z : RunAt x a at ((range x.calls a).from + 4 * k) p y.0 t.at
        z = run-at x a at g y.1

        same : z.index.at ≡ k
        same = let b = z.index.address in omega arith

        w : IsEdgeOf x (λ t. Deep x (Some t))
            (callee x.calls ((range x.calls a).from + 4 * k)) (into k)
        w =
            subst (λ i. IsEdgeOf x (λ t. Deep x (Some t))
            (callee x.calls ((range x.calls a).from + 4 * k)) (into i)) (z.index.is ∙ same)
            (word_costs ((range x.calls a).from + 4 * k) z.word)

        go : (o : Option Routine) → callee x.calls ((range x.calls a).from + 4 * k) ≡ o →
            IsEdgeOf x (λ t. Deep x (Some t)) o (into k) →
            (c : ℕ) × Deep x a p c q × (min e ceiling ≡ min c ceiling)
        go None to h = absurd (let b : None ≡ Some m = sym h ∙ is in let none : ⊥ = cc in none)
        go (Some r) to (m', is', best) =
            let b : m ≡ m' = (let b : Some m ≡ Some m' = sym is ∙ is' in cc) in
            let d = best.1 t.at t.two q (subst (λ m. entry m t.at q ≡ Some t.two) b t.second) in
            let i = d.1 in (
              y.0 + (i.one + i.two),
              Deep.enters y.1.run to i.first i.second,
              sum-among y.0 (i.one + i.two) e t.one t.two ceiling y.2
                  (d.2 ∙ ap (λ n. min n ceiling) i.cost) t.cost,
            )

    among : (p e q k : ℕ) → k < count (range x.calls a) → (o : Option Matrix) → into k ≡ o →
        EndsAt o (matrix_at at k) p e q → (c : ℕ) × Deep x a p c q × (min e ceiling ≡ min c ceiling)
    among p e q k lt None is h = let y = run p e q k lt h in (y.0, Deep.ends y.1.run, y.2)
    among p e q k lt (Some m) is (inl h) = let y = run p e q k lt h in (y.0, Deep.ends y.1.run, y.2)
    among p e q k lt (Some m) is (inr t) = on p e q k m lt is t

-- the words of a function after a pass over them
pub gone : (l : Listing) (s : Positions) (n : ℕ) (callees : List (Option ℕ))
    (through deep at : List Matrix) → AreSummaries l s through deep → IsReached (calls l)
    (function_at l n) → KnowsCallees l s n through deep → AreCallees l (range (calls l)
    (function_at l n))
    (count (range (calls l) (function_at l n))) callees → IsTree (function_tree (calls l)
    (function_at l n)) →
    AreReached (function_tree (calls l) (function_at l n)) s
    (costs_on (record { indices = callees; costs = through })) at → Gone (route l s)
    (function_at l n) at
gone l s n callees through deep at are reached knows cs tree r = record {
  section = is;
  accepted = ok;
  best =
      λ k lt.
      best-runs (route l s) (function_at l n) (costs_on (record {
        indices = callees;
        costs = through;
      }))
      (matrix_at at k) ((range (calls l) (function_at l n)).from + 4 * k) is ok
      (holds l s n (Through (route l s)) through callees is cs are.count
      (λ k t lt here call. (knows k lt call t here).back))
      (r.best k (let w = tree.draft.words in omega arith));
}
  where
    is : IsSection (range (calls l) (function_at l n))
    is = function-section (calls l) (function_at l n) are.listing reached

    ok : IsAccepted (function (calls l) (function_at l n))
    ok = (functions (calls l) are.listing are.callable).accepted (function_at l n) reached

-- the same number of words
pub many : (l : Listing) (n : ℕ) (at : List Matrix) (s : Positions) (word_costs : CostsOn) →
    IsTree (function_tree (calls l) (function_at l n)) →
    AreReached (function_tree (calls l) (function_at l n)) s word_costs at →
    length at ≡ count (range (calls l) (function_at l n))
many l n at s word_costs tree r = let w = tree.draft.words in omega (arith, r.count)

-- the best costs of paths that end in a function or one that it calls
pub deep-best : (l : Listing) (s : Positions) (n : ℕ) (callees : List (Option ℕ))
    (through deep at : List Matrix) (m : Entries) → AreSummaries l s through deep →
    IsReached (calls l) (function_at l n) → KnowsCallees l s n through deep →
    AreCallees l (range (calls l) (function_at l n)) (count (range (calls l) (function_at l
    n))) callees →
    IsTree (function_tree (calls l) (function_at l n)) →
    AreReached (function_tree (calls l) (function_at l n)) s
    (costs_on (record { indices = callees; costs = through })) at →
    IsBest m (Ending (costs_on (record { indices = callees; costs = deep })) at (length at)) →
    IsBest m (Deep (route l s) (function_at l n))
deep-best l s n callees through deep at m are reached knows cs tree r best =
    let g = gone l s n callees through deep at are reached knows cs tree r in
    best-alike (deep-alike (route l s) (function_at l n) at
    (costs_on (record { indices = callees; costs = deep })) g
    (holds l s n (λ t. Deep (route l s) (Some t)) deep callees g.section cs are.count'
    (λ k t lt here call. (knows k lt call t here).ends)))
    (subst (λ n. IsBest m (Ending (costs_on (record { indices = callees; costs = deep })) at n))
    (many l n at s (costs_on (record { indices = callees; costs = through })) tree r) best)

-- the best costs through a routine
back-best : (x : Route) (a : Function) (t : Routine) (at : List Matrix) (ends : List Bool)
    (n : ℕ) (m : Entries) → a ≡ Some t → Gone x a at → n ≡ count (range x.calls a) →
    ((k : ℕ) → k < count (range x.calls a) →
    slice_index_or ends k false ≡ returns x.calls a ((range x.calls a).from + 4 * k)) →
    IsBest m (Ended x.positions ends at n) → IsBest m (Through x t)
back-best x a t at ends n m e g many marks best =
    go (subst (λ a. Gone x a at) e g) (subst (λ a. n ≡ count (range x.calls a)) e many)
    (subst (λ a. (k : ℕ) → k < count (range x.calls a) →
    slice_index_or ends k false ≡ returns x.calls a ((range x.calls a).from + 4 * k)) e marks)
  where
    go : Gone x (Some t) at → n ≡ count (range x.calls (Some t)) →
        ((k : ℕ) → k < count (range x.calls (Some t)) → slice_index_or ends k false
        ≡ returns x.calls (Some t) ((range x.calls (Some t)).from + 4 * k)) → IsBest m (Through x t)
    go g many marks =
        through-best x t (λ k. t.head + 4 * k) at ends n m
        (λ u p c q r. let y = (run-at x (Some t) at g r).index in
        (y.at, (let lt = y.below in omega arith), y.address))
        (λ k lt. g.best k (omega arith)) (λ k lt. marks k (omega arith)) best

-- the matrices of a routine's calls
pub summary-is : (l : Listing) (s : Positions) (n : ℕ) (callees : List (Option ℕ))
    (ends : List Bool) (through deep at : List Matrix) (jump back below one two : Matrix) →
    AreSummaries l s through deep → IsReached (calls l) (function_at l n) →
    KnowsCallees l s n through deep → AreCallees l (range (calls l) (function_at l n))
    (count (range (calls l) (function_at l n))) callees → AreReturns l n (range (calls l)
    (function_at l n))
    (count (range (calls l) (function_at l n))) ends → IsTree (function_tree (calls l)
    (function_at l n)) →
    AreReached (function_tree (calls l) (function_at l n)) s
    (costs_on (record { indices = callees; costs = through })) at → IsBest (entry jump)
    (Steps s 3) →
    IsBest (entry back) (Ended s ends at (length at)) → IsBest (entry below)
    (Ending (costs_on (record { indices = callees; costs = deep })) at (length at)) →
    IsBest (entry one) (Then (In (entry jump)) (In (entry back))) →
    IsBest (entry two) (Then (In (entry jump)) (In (entry below))) → IsSummaryOf l s n one two
summary-is l s n callees ends through deep at jump back below one two are reached knows cs es tree r
    j b d o w t e = record {
      back =
          best-then j (back-best (route l s) (function_at l n) t at ends (length at)
          (entry back) e (gone l s n callees through deep at are reached knows cs tree r)
          (many l n at s (costs_on (record { indices = callees; costs = through })) tree r) es.each
          b) o;
      ends =
          best-then j (subst (λ a. IsBest (entry below) (Deep (route l s) a)) e
          (deep-best l s n callees through deep at (entry below) are reached knows cs tree r d)) w;
    }

-- a table of two lists
pub table-is : {indices indices' : List (Option ℕ)} {costs costs' : List Matrix} (w : CostTable) →
    w ≡ record { indices = indices; costs = costs } → indices ≡ indices' → costs ≡ costs' →
    w ≡ record { indices = indices'; costs = costs' }
table-is {indices} {indices'} {costs} {costs'} w e f g =
    e ∙ λ i. record { indices = f i; costs = g i }
