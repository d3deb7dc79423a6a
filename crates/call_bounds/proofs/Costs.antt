-- Paths with matching calls and returns cost the same as nested paths of single functions.
use Rattle.std.proofs.Common.{◌≡◌, ℕ, ◌+◌, ◌≤◌, ◌⊎◌, refl, arith, inl, inr, subst}
use Rattle.std.proofs.Common.{sym, ◌∙◌, Some, None, List, [], ◌∷◌, Contains}
use Rattle.fp_setup.specs.declared.loop_list.LoopSetup.{LoopSetup}
use Rattle.region_tree.specs.Walk.{IsOwn}
use Rattle.call_bounds.specs.Calls.{CallsLead, IsReached, Function, function, range}
use Rattle.call_bounds.specs.CallWalk.{CallWalk, CostsOf, IsCallBound}
use Rattle.call_bounds.specs.CallWalk.{Route, counter_after_call, function_in}
use Rattle.call_bounds.specs.Runs.{Deep, Leaving, Nested, Run}
use Rattle.call_bounds.proofs.Flat.{Played, called-head, played}
use Rattle.call_bounds.proofs.Nested.{Below, Open, opened}
use Rattle.call_bounds.proofs.Functions.{AreFunctions}

pub begins : {x : Route} {p u q c : ℕ} {s : List ℕ} {l : LoopSetup → ℕ} → CallWalk x p u q s c l →
    IsOwn x.positions p
begins (CallWalk.start o) = o
begins (CallWalk.along e walk edge lies turn bounds) = begins walk
begins (CallWalk.enter walk to turn) = begins walk
begins (CallWalk.come_back walk back lies turn bounds) = begins walk

-- a path that continues the open paths of single functions
wrap : (x : Route) (l : LoopSetup → ℕ) (p : ℕ) (s : List ℕ) (u q c i z : ℕ) → Open x l p s u q c →
    ((m own : ℕ) (k : LoopSetup → ℕ) → Run x (function_in x.calls s) m u q own k →
    Deep x (function_in x.calls s) m (own + i) z) → Deep x None p (c + i) z
wrap x l p [] u q c i z o f = f p c o.counters o.run
wrap x l p (w ∷ s) u q c i z o f =
    subst (λ n. Deep x None p n z) (omega (arith, o.cost))
    (wrap x l p s w o.at o.one (o.two + (o.three + i)) z o.before
    (λ m own k r.
    Deep.enters r o.is o.turn (subst (λ a. Deep x a o.from (o.three + i) z) o.is (f o.from o.three
    o.counters (subst (λ a. Run x a o.from u q o.three o.counters) (sym o.is) o.run)))))

pub in_functions : (x : Route) → AreFunctions x.calls → {c : ℕ} → CostsOf x c → Nested x c
in_functions x is (CostsOf.ends {p = p} {u = u} {q = q} {c = c} {s = s} {k = l} walk) = record {
  at = p;
  own = begins walk;
  end = q;
  costs =
      inl (subst (λ n. Deep x None p n q) (let e : c + 0 ≡ c = omega arith in e)
      (wrap x l p s u q c 0 q (opened x p is walk) (λ m own k r. subst (λ n.
      Deep x (function_in x.calls s) m n q) (let e : own ≡ own + 0 = omega arith in
      e) (Deep.ends r))));
}
in_functions x is (CostsOf.leaves {p = p} {r = r} e walk edge out turn) = record {
  at = p;
  own = begins walk;
  end = r;
  costs = inr (let o = opened x p is walk in Leaving.leaves e o.run edge out turn);
}
in_functions x is (CostsOf.goes_back {p = p} {u = u} {q = q} {w = w} {c = c} {d = d} {r = r}
    {k = l} walk back out turn) = go (opened x p is walk)
  where
    go : Open x l p (w ∷ []) u q c → Nested x (c + d)
    go o = record {
      at = p;
      own = begins walk;
      end = r;
      costs = inr (subst (λ n. Leaving x p n r) (omega (arith, o.cost))
          (Leaving.comes_out o.before.run o.is out o.turn (record {
            word = u;
            at = q;
            one = o.three;
            two = d;
            counters = o.counters;
            run = o.run;
            back = back;
            turn = turn;
            cost = refl;
          })));
    }

-- a path with matching calls and returns that has just entered a function costs these sums
abbrev EndsPath : Route → ℕ → Function → ℕ → ℕ → Type 0
EndsPath x p a m c =
    (s : List ℕ) (n : ℕ) (l : LoopSetup → ℕ) → function_in x.calls s ≡ a →
    IsReached x.calls a → ((b : Function) → Below x.calls s b → CallsLead x.calls b a) →
    CallWalk x p (range x.calls a).from m s n l →
    ((j : LoopSetup) → Contains (function x.calls a).loops j → (range x.calls a).from ≡ j.head →
    l j ≡ 0) → CostsOf x (n + c)

goes : (x : Route) (p : ℕ) → AreFunctions x.calls → {a : Function} {m c z : ℕ} → Deep x a m c z →
    EndsPath x p a m c
goes x p is (Deep.ends run) s n l here reached over walk zero =
    let y = played x p is run s n l here reached over walk zero in
    subst (λ c. CostsOf x c) y.cost_is (CostsOf.ends y.walk)
goes x p is {a} {m} (Deep.enters {u = u} {q = q} {c = c} {d = d} {r = r} {i = i}
    {k = k} {t = t} run to turn deep) s n l here reached over walk zero =
    go (goes x p is deep) (played x p is run s n l here reached over walk zero)
  where
    go : EndsPath x p (Some t) r i → Played x p s a u q (n + c) l k → CostsOf x (n + (c + (d + i)))
    go again y =
        subst (λ c. CostsOf x c) (omega (arith, y.cost_is)) (again (u ∷ s) (y.cost + d)
        (λ j. counter_after_call t j (y.counters j)) to (IsReached.next reached y.word to) over_t
        (CallWalk.enter y.walk to turn) (λ j h e. called-head t j (y.counters j) e))
      where
        over_t : (b : Function) → Below x.calls (u ∷ s) b → CallsLead x.calls b (Some t)
        over_t b (inl e) =
            subst (λ b. CallsLead x.calls b (Some t)) (sym (e ∙ here))
            (CallsLead.one reached y.word to)
        over_t b (inr h) = CallsLead.more (over b h) reached y.word to

-- a path of the section as one with matching calls and returns
from_start : (x : Route) (p : ℕ) → AreFunctions x.calls → IsOwn x.positions p → {u q c : ℕ}
    {k : LoopSetup → ℕ} → Run x None p u q c k → Played x p [] None u q (0 + c) (λ _. 0) k
from_start x p is o run =
    played x p is run [] 0 (λ _. 0) refl IsReached.first (λ b h. absurd h) (CallWalk.start o)
    (λ j h e. refl)

pub flat : (x : Route) (c : ℕ) → AreFunctions x.calls → Nested x c → CostsOf x c
flat x c is n = go n.costs
  where
    leaving : (p : ℕ) → IsOwn x.positions p → {c z : ℕ} → Leaving x p c z → CostsOf x c
    leaving p o (Leaving.leaves {d = d} e run edge out turn) =
        let y = from_start x p is o run in
        subst (λ c. CostsOf x c) (omega (arith, y.cost_is)) (CostsOf.leaves e y.walk edge out turn)
    leaving p o (Leaving.comes_out {u = u} {q = q} {c = c} {d = d} {m = m} {i = i} {r = r} {k = k}
        {t = t} run to out turn z) = onto (from_start x p is o run)
      where
        onto : Played x p [] None u q (0 + c) (λ _. 0) k → CostsOf x (c + (d + i))
        onto y =
            let w =
            played x p is z.run (u ∷ []) (y.cost + d) (λ j. counter_after_call t j (y.counters j))
            to (IsReached.next IsReached.first y.word to) over_t
            (CallWalk.enter y.walk to turn) (λ j h e. called-head t j (y.counters j) e) in
            subst (λ c. CostsOf x c) (omega (arith, y.cost_is, w.cost_is, z.cost))
            (CostsOf.goes_back w.walk z.back out z.turn)
          where
            over_t : (b : Function) → Below x.calls (u ∷ []) b → CallsLead x.calls b (Some t)
            over_t b (inl e) =
                subst (λ b. CallsLead x.calls b (Some t)) (sym e)
                (CallsLead.one IsReached.first y.word to)
            over_t b (inr h) = absurd h

    go : Deep x None n.at c n.end ⊎ Leaving x n.at c n.end → CostsOf x c
    go (inl deep) =
        subst (λ c. CostsOf x c) (let e : 0 + c ≡ c = omega arith in e) (goes x n.at is deep [] 0
        (λ _. 0) refl IsReached.first (λ b h. absurd h) (CallWalk.start n.own) (λ j h e. refl))
    go (inr z) = leaving n.at n.own z

-- the bound, by nested paths of single functions
pub bound_in_functions : (x : Route) (b : ℕ) → AreFunctions x.calls → Nested x b →
    ((c : ℕ) → Nested x c → c ≤ b) → IsCallBound x b
bound_in_functions x b is met kept =
    record { met = flat x b is met; kept = λ c h. kept c (in_functions x is h) }
