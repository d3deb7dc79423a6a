-- A path with matching calls and returns is one path of each open function, each within its
-- caller's.
use Rattle.std.proofs.Common.{◌≡◌, ◌≢◌, ℕ, ◌+◌, ◌≤◌, ◌⊎◌, refl, arith, inl, inr}
use Rattle.std.proofs.Common.{subst, sym, Some, None, List, [], ◌∷◌, Contains}
use Rattle.std.proofs.lemmas.Bool.Decides.{nat_tests}
use Rattle.fp_setup.specs.declared.loop_list.LoopSetup.{LoopSetup}
use Rattle.region_tree.specs.Graph.{Lies, Reachable}
use Rattle.region_tree.specs.Graph.Reachable.{first, next}
use Rattle.region_tree.specs.Walk.{IsNextTurn, counter_after}
use Rattle.bound_calc.proofs.Counters.{counted-other, counted-≤}
use Rattle.call_bounds.specs.declared.routines.Routine.{Routine}
use Rattle.call_bounds.specs.Calls.{Calls, CallsLead, IsReached, Function, callee, function}
use Rattle.call_bounds.specs.CallWalk.{CallWalk, Route, counter_after_call, function_in}
use Rattle.call_bounds.specs.Runs.{Run}
use Rattle.call_bounds.proofs.Functions.{AreFunctions, apart, call-edge, head-lies, lead-from}
use Rattle.call_bounds.proofs.Functions.{plain-edge}

-- the functions below the newest open one on the call stack
abbrev pub Below : Calls → List ℕ → Function → Type 0
Below x [] a = ⊥
Below x (w ∷ s) a = (a ≡ function_in x s) ⊎ Below x s a

-- counters of a function's loops are at most these
abbrev pub AtMost : Calls → Function → (LoopSetup → ℕ) → (LoopSetup → ℕ) → Type 0
AtMost x a k l = (j : LoopSetup) → Contains (function x a).loops j → k j ≤ l j

pub record Bottom (x : Route) (l : LoopSetup → ℕ) (p u q c : ℕ) : Type 0 where
  pub counters : LoopSetup → ℕ
  pub run : Run x None p u q c counters
  pub few : AtMost x.calls None counters l
  pub word : Reachable (function x.calls None) u

pub record Level (x : Route) (l : LoopSetup → ℕ) (under : ℕ → ℕ → ℕ → Type 0)
    (below : Function → Type 0) (w u q c : ℕ) : Type 0 where
  pub routine : Routine
  pub is : callee x.calls w ≡ Some routine
  pub at : ℕ
  pub from : ℕ
  pub one : ℕ
  pub two : ℕ
  pub three : ℕ
  pub counters : LoopSetup → ℕ
  pub before : under w at one
  pub turn : IsNextTurn x.positions 3 at two from
  pub run : Run x (Some routine) from u q three counters
  pub few : AtMost x.calls (Some routine) counters l
  pub reached : IsReached x.calls (Some routine)
  pub word : Reachable (function x.calls (Some routine)) u
  pub over : (b : Function) → below b → CallsLead x.calls b (Some routine)
  pub cost : c ≡ one + (two + three)

-- the paths of the open functions, with the counters l of the whole path
abbrev pub Open : Route → (LoopSetup → ℕ) → ℕ → List ℕ → ℕ → ℕ → ℕ → Type 0
Open x l p [] u q c = Bottom x l p u q c
Open x l p (w ∷ s) u q c = Level x l (Open x l p s) (Below x.calls (w ∷ s)) w u q c

-- other counters, no smaller in any open function
pub open-same : (x : Route) (l l' : LoopSetup → ℕ) (p : ℕ) (s : List ℕ) (u q c : ℕ) →
    AtMost x.calls (function_in x.calls s) l l' →
    ((b : Function) → Below x.calls s b → AtMost x.calls b l l') → Open x l p s u q c →
    Open x l' p s u q c
open-same x l l' p [] u q c here below o = record {
  counters = o.counters;
  run = o.run;
  few = λ j h. let a = o.few j h in let b = here j h in omega arith;
  word = o.word;
}
open-same x l l' p (w ∷ s) u q c here below o = record {
  routine = o.routine;
  is = o.is;
  at = o.at;
  from = o.from;
  one = o.one;
  two = o.two;
  three = o.three;
  counters = o.counters;
  before =
      open-same x l l' p s w o.at o.one (below (function_in x.calls s) (inl refl))
      (λ b h. below b (inr h)) o.before;
  turn = o.turn;
  run = o.run;
  few =
      λ j h. let a = o.few j h in
      let b = subst (λ a. AtMost x.calls a l l') o.is here j h in omega arith;
  reached = o.reached;
  word = o.word;
  over = o.over;
  cost = o.cost;
}

-- the path of the newest open function
pub record Top (x : Route) (l : LoopSetup → ℕ) (p : ℕ) (s : List ℕ) (u q c : ℕ) : Type 0 where
  pub from : ℕ
  pub before : ℕ
  pub own : ℕ
  pub counters : LoopSetup → ℕ
  pub run : Run x (function_in x.calls s) from u q own counters
  pub few : AtMost x.calls (function_in x.calls s) counters l
  pub reached : IsReached x.calls (function_in x.calls s)
  pub word : Reachable (function x.calls (function_in x.calls s)) u
  pub over : (b : Function) → Below x.calls s b → CallsLead x.calls b (function_in x.calls s)
  pub cost : c ≡ before + own
  pub other : (l' : LoopSetup → ℕ) (u' q' c' : ℕ) (k' : LoopSetup → ℕ) →
      Run x (function_in x.calls s) from u' q' c' k' → AtMost x.calls (function_in x.calls s) k' l'
      →
      Reachable (function x.calls (function_in x.calls s)) u' →
      ((b : Function) → Below x.calls s b → AtMost x.calls b l l') → Open x l' p s u' q'
      (before + c')

cost-is : (x : Route) (l : LoopSetup → ℕ) (p : ℕ) (s : List ℕ) (u q c c' : ℕ) → c ≡ c' →
    Open x l p s u q c → Open x l p s u q c'
cost-is x l p s u q c c' e o = subst (λ c. Open x l p s u q c) e o

pub top : (x : Route) (l : LoopSetup → ℕ) (p : ℕ) (s : List ℕ) (u q c : ℕ) → Open x l p s u q c →
    Top x l p s u q c
top x l p [] u q c o = record {
  from = p;
  before = 0;
  own = c;
  counters = o.counters;
  run = o.run;
  few = o.few;
  reached = IsReached.first;
  word = o.word;
  over = λ b h. absurd h;
  cost = omega arith;
  other =
      λ l' u' q' c' k' r few word below. cost-is x l' p [] u' q' c' (0 + c') (omega arith)
      (record { counters = k'; run = r; few = few; word = word });
}
top x l p (w ∷ s) u q c o = record {
  from = o.from;
  before = o.one + o.two;
  own = o.three;
  counters = o.counters;
  run = subst (λ a. Run x a o.from u q o.three o.counters) (sym o.is) o.run;
  few = subst (λ a. AtMost x.calls a o.counters l) (sym o.is) o.few;
  reached = subst (λ a. IsReached x.calls a) (sym o.is) o.reached;
  word = subst (λ a. Reachable (function x.calls a) u) (sym o.is) o.word;
  over = λ b h. subst (λ a. CallsLead x.calls b a) (sym o.is) (o.over b h);
  cost = omega (arith, o.cost);
  other = λ l' u' q' c' k' r few word below. record {
    routine = o.routine;
    is = o.is;
    at = o.at;
    from = o.from;
    one = o.one;
    two = o.two;
    three = c';
    counters = k';
    before =
        open-same x l l' p s w o.at o.one (below (function_in x.calls s) (inl refl))
        (λ b h. below b (inr h)) o.before;
    turn = o.turn;
    run = subst (λ a. Run x a o.from u' q' c' k') o.is r;
    few = subst (λ a. AtMost x.calls a k' l') o.is few;
    reached = o.reached;
    word = subst (λ a. Reachable (function x.calls a) u') o.is word;
    over = o.over;
    cost = omega arith;
  };
}

pub called-other : (t : Routine) (j : LoopSetup) (n : ℕ) → t.head ≢ j.head →
    counter_after_call t j n ≡ n
unfolding counter_after_call
called-other t j n h = grind (arith, nat_tests)

-- a step in one function changes no counter of a loop of the functions below
aside : (x : Calls) (a b : Function) (l : LoopSetup → ℕ) (u v : ℕ) → AreFunctions x →
    CallsLead x b a →
    Lies (function x a) v → AtMost x b l (λ j. counter_after u v j (l j))
aside x a b l u v is lead lies j h =
    let other : v ≢ j.head = λ e. apart x b a v is lead (subst (λ z. Lies (function x b) z)
    (sym e) (head-lies x b j (is.accepted b (lead-from x b a lead)) h)) lies in
    let e = counted-other u v j (l j) other in
    omega arith

aside-call : (x : Calls) (t : Routine) (b : Function) (l : LoopSetup → ℕ) → AreFunctions x →
    CallsLead x b (Some t) → IsReached x (Some t) → AtMost x b l (λ j. counter_after_call t j (l j))
aside-call x t b l is lead reached j h =
    let some = is.some (Some t) reached in
    let other : t.head ≢ j.head =
    λ e. apart x b (Some t) t.head is lead (subst (λ z. Lies (function x b) z) (sym e)
    (head-lies x b j
    (is.accepted b (lead-from x b (Some t) lead)) h)) (record { low = omega arith; high = some }) in
    let e = called-other t j (l j) other in
    omega arith

-- a path with matching calls and returns, as paths of the open functions
pub opened : (x : Route) (p : ℕ) → AreFunctions x.calls → {u q c : ℕ} {s : List ℕ} {l : LoopSetup →
    ℕ} →
    CallWalk x p u q s c l → Open x l p s u q c
opened x p is (CallWalk.start o) =
    record { counters = λ _. 0; run = Run.start o; few = λ j h. omega arith; word = first }
opened x p is (CallWalk.along {u = u} {q = q} {c = c} {d = d} {r = r} {s = s}
    {k = l} e walk edge lies turn bounds) = go (top x l p s u q c (opened x p is walk))
  where
    go : Top x l p s u q c → Open x (λ j. counter_after u e.to j (l j)) p s e.to r (c + d)
    go t =
        cost-is x (λ j. counter_after u e.to j (l j)) p s e.to r (t.before + (t.own + d))
        (c + d) (omega (arith, t.cost)) (t.other (λ j. counter_after u e.to j (l j)) e.to r
        (t.own + d) (λ j. counter_after u e.to j (t.counters j)) (Run.along e t.run edge lies turn
        (λ j h. let a = counted-≤ u e.to j (t.counters j) (l j) (t.few j h) in
        let b = bounds j
        (record { within = function_in x.calls s; reached = t.reached; known = h }) in omega arith))
        (λ j h. counted-≤ u e.to j (t.counters j) (l j) (t.few j h))
        (next e t.word (plain-edge x.calls (function_in x.calls s) u e edge) lies)
        (λ b h. aside x.calls (function_in x.calls s) b l u e.to is (t.over b h) lies))
opened x p is
    (CallWalk.enter {u = u} {q = q} {c = c} {d = d} {r = r} {s = s} {k = l} {t = t} walk to turn) =
    go (opened x p is walk) (top x l p s u q c (opened x p is walk))
  where
    l' : LoopSetup → ℕ
    l' j = counter_after_call t j (l j)

    go : Open x l p s u q c → Top x l p s u q c →
        Open x (λ j. counter_after_call t j (l j)) p (u ∷ s) t.head r (c + d)
    go o z = record {
      routine = t;
      is = to;
      at = q;
      from = r;
      one = c;
      two = d;
      three = 0;
      counters = λ _. 0;
      before =
          open-same x l (λ j. counter_after_call t j (l j)) p s u q c
          (aside-call x.calls t (function_in x.calls s) l is (over (function_in x.calls
          s) (inl refl))
          reached) (λ b h. aside-call x.calls t b l is (over b (inr h)) reached) o;
      turn = turn;
      run = Run.start turn.own;
      few = λ j h. omega arith;
      reached = reached;
      word = first;
      over = over;
      cost = omega arith;
    }
      where
        reached : IsReached x.calls (Some t)
        reached = IsReached.next z.reached z.word to

        over : (b : Function) → Below x.calls (u ∷ s) b → CallsLead x.calls b (Some t)
        over b (inl e) =
            subst (λ a. CallsLead x.calls a (Some t)) (sym e) (CallsLead.one z.reached z.word to)
        over b (inr h) = CallsLead.more (z.over b h) z.reached z.word to
opened x p is (CallWalk.come_back {u = u} {q = q} {w = w} {c = c} {d = d} {r = r} {s = s}
    {k = l} walk back lies turn bounds) = go (opened x p is walk)
  where
    go : Open x l p (w ∷ s) u q c →
        Open x (λ j. counter_after w (w + 4) j (l j)) p s (w + 4) r (c + d)
    go o = onto (top x l p s w o.at o.one o.before)
      where
        onto : Top x l p s w o.at o.one →
            Open x (λ j. counter_after w (w + 4) j (l j)) p s (w + 4) r (c + d)
        onto t =
            cost-is x (λ j. counter_after w (w + 4) j (l j)) p s (w + 4) r
            (t.before + (t.own + (o.two + (o.three + d)))) (c + d) (omega (arith, t.cost, o.cost))
            (t.other (λ j. counter_after w (w + 4) j (l j)) (w + 4) r
            (t.own + (o.two + (o.three + d))) (λ j. counter_after w (w + 4) j (t.counters j))
            (Run.through t.run o.is lies o.turn o.run back turn)
            (λ j h. counted-≤ w (w + 4) j (t.counters j) (l j) (t.few j h))
            (next (record { to = w + 4; lag = 3 }) t.word
            (call-edge x.calls (function_in x.calls s) w o.routine o.is) lies)
            (λ b h. aside x.calls (function_in x.calls s) b l w (w + 4) is (t.over b h) lies))
