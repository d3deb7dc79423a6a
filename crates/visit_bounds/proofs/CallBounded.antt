-- A call visit that keeps returns and bounds takes no longer than any bound on the paths with
-- matching calls and returns.
use Rattle.std.proofs.Common.{◌≡◌, ℕ, ◌+◌, ◌-◌, ◌%◌, ◌<◌, ◌≤◌, ◌⊎◌, inl, inr, refl}
use Rattle.std.proofs.Common.{arith, ap, sym, subst, ◌∙◌, Bool, true, false, Option}
use Rattle.std.proofs.Common.{Some, None, List, [], ◌∷◌, ◌++◌, length, Contains}
use Rattle.std.specs.Prelude.{slice_index_or}
use Rattle.fp_setup.specs.declared.loop_list.LoopSetup.{LoopSetup}
use Rattle.core_model.specs.Memory.{code_at}
use Rattle.core_model.specs.Thread.{Thread}
use Rattle.region_tree.proofs.EdgeLaws.{edge-aligned}
use Rattle.region_tree.specs.Edges.{edges_of}
use Rattle.region_tree.specs.Graph.{Edge, Graph, Lies, Reachable, edge_list}
use Rattle.region_tree.specs.Graph.Reachable.{first, next}
use Rattle.region_tree.specs.Walk.{IsNextTurn}
use Rattle.region_tree.specs.declared.edges.Stop.TheVariants.{No}
use Rattle.core_model.specs.World.{Start, contents, issue_of, recent, environment_at, thread_of}
use Rattle.call_bounds.specs.declared.routines.Routine.{Routine}
use Rattle.visit_bounds.proofs.Instructions.{Gone, issue-fetches, issue-goes}
use Rattle.visit_bounds.proofs.Linking.{Went}
use Rattle.visit_bounds.proofs.Linking.{linked-after, linked-own, linked_all}
use Rattle.visit_bounds.proofs.Links.{fetch-inside, stop-no}
use Rattle.visit_bounds.specs.CallsInSettings.{CallVisitsAreBoundedInSettings, HasWordsOfFunctions}
use Rattle.visit_bounds.specs.InSettings.{AreLinkedIn, IsSet, Throughout}
use Rattle.visit_bounds.specs.VisitBound.{Along}
use Rattle.visit_bounds.specs.Visits.{Issued, first_of}
use Rattle.call_bounds.specs.Calls.{Calls, IsReached, Function, callee, is_back}
use Rattle.call_bounds.specs.Calls.{inner_edges, function, returns, stop_unless}
use Rattle.call_bounds.specs.CallRefusals.{IsCallable, IsListing}
use Rattle.call_bounds.specs.CallWalk.{CallWalk, CostsOf, Route, function_in, route}
use Rattle.call_bounds.proofs.Facts.{functions, reached-listed}
use Rattle.call_bounds.proofs.Nested.{Top, opened, top}
use Rattle.call_bounds.proofs.Functions.{AreFunctions}
use Rattle.visit_bounds.specs.CallVisits.{ComesBack, StaysInFunctions}
use Rattle.visit_bounds.specs.CallVisits.{KeepsCallBounds, KeepsReturns}
use Rattle.visit_bounds.specs.CallVisits.{counted_after, counter_at, open_at}
use Rattle.visit_bounds.specs.CallVisitBound.{HostsCalls, IsMet}
use Rattle.visit_bounds.proofs.Returns.{issue-returns}
use Rattle.visit_bounds.proofs.CallVisited.{CallEdge, ends, goes}

abbrev at : Route → Issued → ℕ
at x i = i.cycle % length x.positions.frame

abbrev Links : (ℕ → Type 0) → Route → List Issued → Type 0
Links set x l = AreLinkedIn set (IsMet x.calls) (CallEdge x.calls) x.positions l

-- the issues up to one in its function, as a path
record IsCallPathTo (x : Route) (i : Issued) (before : List Issued) : Type 0 where
  cost : ℕ
  counters : LoopSetup → ℕ
  walk : CallWalk x (at x (first_of i before)) i.pc (at x i) (open_at x.calls before) cost counters
  order : (first_of i before).cycle ≤ i.cycle
  long : cost ≡ i.cycle - (first_of i before).cycle
  same : (j : LoopSetup) → counters j ≡ counter_at x.calls j i before

-- the last word of the path is a reachable word of a reached function
met : (x : Route) (i : Issued) (before : List Issued) → AreFunctions x.calls →
    IsCallPathTo x i before →
    IsMet x.calls i.pc
met x i before is w =
    go (top x w.counters (at x (first_of i before)) (open_at x.calls before) i.pc (at x i) w.cost
    (opened x (at x (first_of i before)) is w.walk))
  where
    go : Top x w.counters (at x (first_of i before)) (open_at x.calls before) i.pc (at x i) w.cost →
        IsMet x.calls i.pc
    go t = record {
      within = function_in x.calls (open_at x.calls before);
      reached = t.reached;
      word = t.word;
    }

turn-of : (x : Route) (h i : Issued) (a : Along (CallEdge x.calls) x.positions h i) →
    IsNextTurn x.positions a.edge.lag (at x h) (i.cycle - h.cycle) (at x i)
turn-of x h i a = a.turn

-- the cycles up to the issue before the last one, and those from it on
until-last : (set : ℕ → Type 0) (x : Route) (i h : Issued) (before earlier : List Issued) →
    Links set x (i ∷ (h ∷ (before ++ earlier))) → Throughout set (first_of h before).cycle i.cycle →
    Throughout set (first_of h before).cycle h.cycle
until-last set x i h before earlier l here c low high =
    let order = l.1 in here c low (let up : c ≤ i.cycle = omega arith in up)

from-last : (set : ℕ → Type 0) (x : Route) (i h : Issued) (before : List Issued) →
    Throughout set (first_of h before).cycle i.cycle → IsCallPathTo x h before →
    Throughout set h.cycle i.cycle
from-last set x i h before here w c low high =
    let order = w.order in
    here c (let from : (first_of h before).cycle ≤ c = omega arith in from) high

walked : (set : ℕ → Type 0) (x : Route) (i : Issued) (before earlier : List Issued) →
    AreFunctions x.calls → IsCallable x.calls → Links set x (i ∷ (before ++ earlier)) →
    Throughout set (first_of i before).cycle i.cycle →
    (first_of i before).pc ≡ x.calls.section.from → StaysInFunctions x.calls before →
    Lies (function x.calls (function_in x.calls (open_at x.calls before))) i.pc →
    KeepsReturns x.calls i before → KeepsCallBounds x.calls i before → IsCallPathTo x i before
walked set x i [] earlier is ok l here starts on lies comes keeps = record {
  cost = 0;
  counters = λ _. 0;
  walk =
      subst (λ u. CallWalk x (at x i) u (at x i) [] 0 (λ _. 0)) (sym starts)
      (CallWalk.start (linked-own set (IsMet x.calls) (CallEdge x.calls) x.positions i earlier l
      (let same : i.cycle ≤ i.cycle = omega arith in here i.cycle same same)));
  order = omega arith;
  long = omega arith;
  same = λ j. refl;
}
walked set x i (h ∷ before) earlier is ok l here starts on lies comes keeps =
    go (walked set x h before earlier is ok l.0
    (until-last set x i h before earlier l here) starts on.0 on.1 comes.0 keeps.0)
  where
    go : IsCallPathTo x h before → IsCallPathTo x i (h ∷ before)
    go w = onto (l.3 (from-last set x i h before here w) (met x h before is w) on.2)
      where
        onto : Along (CallEdge x.calls) x.positions h i → IsCallPathTo x i (h ∷ before)
        onto a = record {
          cost = w.cost + (i.cycle - h.cycle);
          counters =
              λ j. counted_after (callee x.calls h.pc) (is_back (x.calls.word h.pc))
              (open_at x.calls before) h.pc a.edge.to j (w.counters j);
          walk =
              subst (λ v. CallWalk x (at x (first_of h before)) v (at x i)
              (open_at x.calls (h ∷ before)) (w.cost + (i.cycle - h.cycle))
              (λ j. counted_after (callee x.calls h.pc) (is_back (x.calls.word h.pc))
              (open_at x.calls before) h.pc a.edge.to j (w.counters j))) (sym a.to)
              (goes x (at x (first_of h before)) h.pc (at x h) w.cost (i.cycle - h.cycle) (at x i)
              (open_at x.calls before) w.counters a.edge is ok w.walk a.known a.turn (subst (λ v.
              ComesBack (open_at x.calls before) (is_back (x.calls.word h.pc)) v) a.to comes.1)
              (subst (λ v. Lies (function x.calls (function_in x.calls (open_at x.calls
              (h ∷ before)))) v)
              a.to lies) (λ j known. subst (λ n. n ≤ j.limit) (counts j) (keeps.1 j known)));
          order = omega (arith, w.order, a.order);
          long = omega (arith, w.order, a.order, w.long);
          same = λ j. sym (counts j);
        }
          where
            counts : (j : LoopSetup) → counter_at x.calls j i (h ∷ before)
                ≡ counted_after (callee x.calls h.pc) (is_back (x.calls.word h.pc))
                (open_at x.calls before) h.pc a.edge.to j (w.counters j)
            counts j =
                ap (λ v. counted_after (callee x.calls h.pc) (is_back (x.calls.word h.pc))
                (open_at x.calls before) h.pc v j (counter_at x.calls j h before)) a.to
                ∙ ap (λ n. counted_after (callee x.calls h.pc) (is_back (x.calls.word h.pc))
                (open_at x.calls before) h.pc a.edge.to j n) (sym (w.same j))

lies-or : (g : Graph) (u : ℕ) → Lies g u ⊎ (Lies g u → ⊥)
lies-or g u =
    go (let z : (g.from ≤ u) ⊎ (u < g.from) = grind arith in z)
    (let z : (u < g.to) ⊎ (g.to ≤ u) = grind arith in z)
  where
    go : (g.from ≤ u) ⊎ (u < g.from) → (u < g.to) ⊎ (g.to ≤ u) → Lies g u ⊎ (Lies g u → ⊥)
    go (inl a) (inl b) = inl (record { low = a; high = b })
    go (inl a) (inr b) = inr (λ l. omega (arith, l.high))
    go (inr a) b = inr (λ l. omega (arith, l.low))

bounded : (set : ℕ → Type 0) (x : Route) (b : ℕ) →
    ((c : ℕ) → CostsOf x c → c ≤ b) → AreFunctions x.calls → IsCallable x.calls →
    (last : Issued) (before earlier : List Issued) → Links set x (last ∷ (before ++ earlier)) →
    Throughout set (first_of last before).cycle last.cycle →
    (first_of last before).pc ≡ x.calls.section.from → StaysInFunctions x.calls before →
    KeepsReturns x.calls last before → KeepsCallBounds x.calls last before →
    Lies (function x.calls (function_in x.calls (open_at x.calls before))) last.pc
    ⊎ (Lies (function x.calls (function_in x.calls (open_at x.calls before))) last.pc → ⊥) →
    last.cycle - (first_of last before).cycle ≤ b
bounded set x b most is ok last before earlier l here starts on comes keeps (inl lies) =
    let w = walked set x last before earlier is ok l here starts on lies comes keeps in
    subst (λ c. c ≤ b) w.long (most w.cost (CostsOf.ends w.walk))
bounded set x b most is ok last [] earlier l here starts on comes keeps (inr out) = omega arith
bounded set x b most is ok last (h ∷ before) earlier l here starts on comes keeps (inr out) =
    go (walked set x h before earlier is ok l.0
    (until-last set x last h before earlier l here) starts on.0 on.1 comes.0 keeps.0)
  where
    go : IsCallPathTo x h before → last.cycle - (first_of h before).cycle ≤ b
    go w = onto (l.3 (from-last set x last h before here w) (met x h before is w) on.2)
      where
        onto : Along (CallEdge x.calls) x.positions h last → last.cycle - (first_of h
            before).cycle ≤ b
        onto a =
            let le : w.cost + (last.cycle - h.cycle) ≤ b = most (w.cost + (last.cycle - h.cycle))
            (ends x (at x (first_of h before)) h.pc (at x h) w.cost (last.cycle - h.cycle)
            (at x last) (open_at x.calls before) w.counters a.edge is ok w.walk a.known a.turn
            (subst (λ v. ComesBack (open_at x.calls before) (is_back (x.calls.word h.pc)) v)
            a.to comes.1) (λ lies. out (subst (λ v. Lies
            (function x.calls (function_in x.calls (open_at x.calls (h ∷ before)))) v)
            (sym a.to) lies))) in
            omega (arith, w.order, a.order, w.long)

-- reachable words are multiples of four
onward-aligned : (o : Option Routine) (w u : ℕ) (e : Edge) → u % 4 ≡ 0 →
    Contains (inner_edges o u (edge_list (edges_of w u))) e → e.to % 4 ≡ 0
onward-aligned None w u e h c = edge-aligned w u e h c
onward-aligned (Some t) w u e h c =
    let z : c.0 ≡ 0 = omega (arith, c.1) in
    let same : record { to = u + 4; lag = 3 } ≡ e =
    subst (λ i. slice_index_or (record { to = u + 4; lag = 3 } ∷ []) i e ≡ e) z c.2 in
    let to : u + 4 ≡ e.to = ap (λ (y : Edge). y.to) same in
    omega arith

pub function-aligned : (x : Calls) (a : Function) (u : ℕ) → IsListing x → IsReached x a →
    Reachable (function x a) u → u % 4 ≡ 0
function-aligned x None u is r first = is.section.from_aligned
function-aligned x (Some t) u is r first = (is.routines.each t (reached-listed x t r)).head_aligned
function-aligned x a u is r (next {u = v} e word edge lies) =
    onward-aligned (callee x v) (x.word v) v e (function-aligned x a v is r word) edge

-- a reachable word doesn't stop the graph, or is a return
stops : (x : Calls) (u : ℕ) → IsCallable x → IsMet x u →
    ((edges_of (x.word u) u).stop ≡ No) ⊎ (is_back (x.word u) ≡ true)
stops x u ok m = go (returns x m.within u) refl
  where
    routine : (a : Function) → returns x a u ≡ true → is_back (x.word u) ≡ true
    routine None h = cc
    routine (Some t) h = h

    go : (b : Bool) → returns x m.within u ≡ b →
        ((edges_of (x.word u) u).stop ≡ No) ⊎ (is_back (x.word u) ≡ true)
    go true e = inr (routine m.within e)
    go false e = inl (stop-no (edges_of (x.word u) u).stop
        (λ z. ok.indirect u (record {
          within = m.within;
          reached = m.reached;
          holds = (m.word, ap (λ b. stop_unless b (edges_of (x.word u) u).stop) e ∙ z);
        }))
        (λ z. ok.timed u (record {
          within = m.within;
          reached = m.reached;
          holds = (m.word, ap (λ b. stop_unless b (edges_of (x.word u) u).stop) e ∙ z);
        })))

went : (s : Start) (x : Calls) (i : ℕ) → IsCallable x → HasWordsOfFunctions s x →
    Went (IsMet x) (CallEdge x) s i
went s x i ok host c m calm = go (stops x th.pc ok m)
  where
    th : Thread
    th = thread_of (recent s c).now i

    same : code_at s.size s.i_words th.pc ≡ x.word th.pc
    same =
        host.same_words th.pc m (fetch-inside s c (recent s c).now i th.pc (issue-fetches
        (environment_at s c (recent s c).now i) (contents s c (recent s c).now i) c th calm))

    go : ((edges_of (x.word th.pc) th.pc).stop ≡ No) ⊎ (is_back (x.word th.pc) ≡ true) →
        Gone (CallEdge x th.pc) c th.own.sleep (issue_of s c (recent s c).now i).thread
    go (inl stop) =
        let y = issue-goes (environment_at s c (recent s c).now i) (contents s c (recent s c).now i)
        c th (ap (λ w. (edges_of w th.pc).stop) same ∙ stop) calm in
        record {
          edge = y.edge;
          known =
              inl (stop, subst (λ w. Contains (edge_list (edges_of w th.pc)) y.edge) same y.known);
          to = y.to;
          ready = y.ready;
          sleeps = y.sleeps;
          later = y.later;
        }
    go (inr back) =
        let y = issue-returns (environment_at s c (recent s c).now i)
        (contents s c (recent s c).now i) c th (ap is_back same ∙ back) calm in
        record {
          edge = record { to = (issue_of s c (recent s c).now i).thread.pc; lag = 3 };
          known = inr (back, refl);
          to = refl;
          ready = y.ready;
          sleeps = y.sleeps;
          later = omega arith;
        }

pub call_visits_in_settings : CallVisitsAreBoundedInSettings
call_visits_in_settings x slots thread b s n is ok most host last before here v comes keeps =
    let r : Route = route x slots thread in
    let all = linked_all (IsMet x) (CallEdge x) s slots thread n (went s x thread ok host)
    host.eight in
    let links =
    subst (λ l. AreLinkedIn (IsSet s slots thread) (IsMet x) (CallEdge x) r.positions l)
    v.among all in
    bounded (IsSet s slots thread) r b most (functions x is ok) ok last before v.earlier
    (linked-after (IsSet s slots thread) (IsMet x) (CallEdge x) r.positions v.later
    (last ∷ (before ++ v.earlier)) links) here v.starts v.goes_on comes keeps
    (lies-or (function x (function_in x (open_at x before))) last.pc)

pub words-of : (s : Start) (x : Calls) (slots thread : ℕ) → IsListing x →
    HostsCalls s x slots thread → HasWordsOfFunctions s x
words-of s x slots thread is h = record {
  eight = h.eight;
  same_words = λ u m lt. h.same_words u (function-aligned x m.within u is m.reached m.word) m lt;
}
