-- Nested paths of single functions form one path with matching calls and returns.
use Rattle.std.proofs.Common.{◌≡◌, ◌≢◌, ℕ, ◌+◌, ◌<◌, ◌≤◌, ◌⊎◌, refl, arith, inl}
use Rattle.std.proofs.Common.{inr, subst, sym, ◌∙◌, Some, List, ◌∷◌, Contains}
use Rattle.std.proofs.lemmas.Bool.Decides.{nat_tests}
use Rattle.fp_setup.specs.declared.loop_list.LoopSetup.{LoopSetup}
use Rattle.region_tree.specs.Graph.{Edge, Holds, Lies, Reachable}
use Rattle.region_tree.specs.Graph.Reachable.{first, next}
use Rattle.region_tree.specs.Walk.{counter_after}
use Rattle.bound_calc.proofs.Accepted.{holds-or}
use Rattle.bound_calc.proofs.Counters.{counted-other, counted-≤}
use Rattle.bound_calc.proofs.Embed.{is_or_not}
use Rattle.call_bounds.specs.declared.routines.Routine.{Routine}
use Rattle.call_bounds.specs.Calls.{Calls, CallsLead, Counts, IsReached, Function, function, range}
use Rattle.call_bounds.specs.CallWalk.{CallWalk, Route, counter_after_call, function_in}
use Rattle.call_bounds.specs.Runs.{Run}
use Rattle.call_bounds.proofs.Nested.{Below, called-other}
use Rattle.call_bounds.proofs.Functions.{AreFunctions, apart, call-edge, head-lies, lead-from}
use Rattle.call_bounds.proofs.Functions.{plain-edge}

pub counted-out : (u v : ℕ) (j : LoopSetup) (n : ℕ) → v ≡ j.head → (Holds j u → ⊥) →
    counter_after u v j n ≡ 0
unfolding counter_after
counted-out u v j n e out =
    go (let z : (u < j.head) ⊎ ((j.last < u) ⊎ ((j.head ≤ u) × (u ≤ j.last))) = grind arith in z)
  where
    go : (u < j.head) ⊎ ((j.last < u) ⊎ ((j.head ≤ u) × (u ≤ j.last))) → counter_after u v j n ≡ 0
    go (inl a) = grind (arith, nat_tests)
    go (inr (inl b)) = grind (arith, nat_tests)
    go (inr (inr held)) = absurd (out held)

called-≤ : (t : Routine) (j : LoopSetup) (n : ℕ) → counter_after_call t j n ≤ n
unfolding counter_after_call
called-≤ t j n = grind (arith, nat_tests)

pub called-head : (t : Routine) (j : LoopSetup) (n : ℕ) → t.head ≡ j.head →
    counter_after_call t j n ≡ 0
unfolding counter_after_call
called-head t j n e = grind (arith, nat_tests)

-- no counter is above its bound
pub within : {x : Route} {p u q c : ℕ} {s : List ℕ} {l : LoopSetup → ℕ} → CallWalk x p u q s c l →
    (j : LoopSetup) → Counts x.calls j → l j ≤ j.limit
within (CallWalk.start o) j h = omega arith
within (CallWalk.along e walk edge lies turn bounds) j h = bounds j h
within (CallWalk.enter {k = l} {t = t} walk to turn) j h =
    let a = within walk j h in let b = called-≤ t j (l j) in omega arith
within (CallWalk.come_back walk back lies turn bounds) j h = bounds j h

-- a path of a function, appended to a path that has just entered the function
pub record Played (x : Route) (p : ℕ) (s : List ℕ) (a : Function) (u q c : ℕ)
    (l k : LoopSetup → ℕ) : Type 0 where
  pub counters : LoopSetup → ℕ
  pub cost : ℕ
  pub walk : CallWalk x p u q s cost counters
  pub cost_is : cost ≡ c
  pub held : (j : LoopSetup) → Contains (function x.calls a).loops j → Holds j u → counters j ≤ k j
  pub others : (b : Function) (j : LoopSetup) → Below x.calls s b → Contains (function x.calls
      b).loops j →
      counters j ≡ l j
  pub word : Reachable (function x.calls a) u

-- the counters of the whole path keep their bounds after a step inside a function
steps-within : (x : Calls) (a : Function) (u v : ℕ) (l k : LoopSetup → ℕ) → AreFunctions x →
    IsReached x a → Lies (function x a) v → ((j : LoopSetup) → Counts x j → l j ≤ j.limit) →
    ((j : LoopSetup) → Contains (function x a).loops j → Holds j u → l j ≤ k j) → ((j : LoopSetup) →
    Contains (function x a).loops j → Holds j u → v ≡ j.head → counter_after u v j (k j) ≤ j.limit)
    →
    (j : LoopSetup) → Counts x j → counter_after u v j (l j) ≤ j.limit
steps-within x a u v l k is reached lies small held bounds j h = go (is_or_not v j.head)
  where
    here : v ≡ j.head → Contains (function x a).loops j
    here e =
        let same : a ≡ h.within =
        is.same a h.within v reached h.reached lies (subst (λ z. Lies (function x h.within) z)
        (sym e) (head-lies x h.within j (is.accepted h.within h.reached) h.known)) in
        subst (λ b. Contains (function x b).loops j) (sym same) h.known

    back : v ≡ j.head → (Holds j u) ⊎ (Holds j u → ⊥) → counter_after u v j (l j) ≤ j.limit
    back e (inl held_u) =
        let y = here e in
        let m = counted-≤ u v j (l j) (k j) (held j y held_u) in
        let b = bounds j y held_u e in omega arith
    back e (inr out) = let z = counted-out u v j (l j) e out in omega arith

    go : (v ≡ j.head) ⊎ (v ≢ j.head) → counter_after u v j (l j) ≤ j.limit
    go (inr other) = let z = counted-other u v j (l j) other in let y = small j h in omega arith
    go (inl e) = back e (holds-or j u)

-- the loops that hold the word after a step
steps-held : (x : Calls) (a : Function) (u : ℕ) (e : Edge) (l k : LoopSetup → ℕ) → AreFunctions x →
    IsReached x a → Reachable (function x a) u → Contains ((function x a).edges u) e →
    ((j : LoopSetup) → Contains (function x a).loops j → Holds j u → l j ≤ k j) →
    (j : LoopSetup) → Contains (function x a).loops j → Holds j e.to →
    counter_after u e.to j (l j) ≤ counter_after u e.to j (k j)
steps-held x a u e l k is reached word edge held j h held_v =
    go (holds-or j u) ((is.accepted a reached).entered u e j word edge h held_v)
  where
    go : (Holds j u) ⊎ (Holds j u → ⊥) → (Holds j u) ⊎ (e.to ≡ j.head) →
        counter_after u e.to j (l j) ≤ counter_after u e.to j (k j)
    go (inl held_u) b = counted-≤ u e.to j (l j) (k j) (held j h held_u)
    go (inr out) (inl held_u) = absurd (out held_u)
    go (inr out) (inr head) =
        let z = counted-out u e.to j (l j) head out in
        let y = counted-out u e.to j (k j) head out in omega arith

-- a word of one function is no head of a loop of a function below it
not-head : (x : Calls) (a b : Function) (v : ℕ) (j : LoopSetup) → AreFunctions x → CallsLead x b a →
    Lies (function x a) v → Contains (function x b).loops j → v ≢ j.head
not-head x a b v j is lead lies h e =
    apart x b a v is lead (subst (λ z. Lies (function x b) z) (sym e)
    (head-lies x b j (is.accepted b (lead-from x b a lead)) h)) lies

-- the same for every path that has just entered the function
abbrev pub Plays : Route → ℕ → Function → ℕ → ℕ → ℕ → ℕ → (LoopSetup → ℕ) → Type 0
Plays x p a m u q c k =
    (s : List ℕ) (n : ℕ) (l : LoopSetup → ℕ) → function_in x.calls s ≡ a →
    IsReached x.calls a → ((b : Function) → Below x.calls s b → CallsLead x.calls b a) →
    CallWalk x p (range x.calls a).from m s n l →
    ((j : LoopSetup) → Contains (function x.calls a).loops j → (range x.calls a).from ≡ j.head →
    l j ≡ 0) → Played x p s a u q (n + c) l k

pub played : (x : Route) (p : ℕ) → AreFunctions x.calls → {a : Function} {m u q c : ℕ}
    {k : LoopSetup → ℕ} →
    Run x a m u q c k → Plays x p a m u q c k
played x p is {a} {m} (Run.start o) s n l here reached over walk zero = record {
  counters = l;
  cost = n;
  walk = walk;
  cost_is = omega arith;
  held =
      λ j h held_u. let w = (is.accepted a reached).ordered j h in
      let e = zero j h (omega arith) in omega arith;
  others = λ b j below h. refl;
  word = first;
}
played x p is {a} {m} (Run.along {u = u} {q = q} {c = c} {d = d} {r = r}
    {k = k} e runs edge lies turn bounds) s n l here reached over walk zero =
    go (played x p is runs s n l here reached over walk zero)
  where
    go : Played x p s a u q (n + c) l k →
        Played x p s a e.to r (n + (c + d)) l (λ j. counter_after u e.to j (k j))
    go y = record {
      counters = λ j. counter_after u e.to j (y.counters j);
      cost = y.cost + d;
      walk =
          CallWalk.along e y.walk edge
          (subst (λ b. Lies (function x.calls b) e.to) (sym here) lies) turn
          (steps-within x.calls a u e.to y.counters k is reached lies (within y.walk) y.held
          (λ j h held_u at. bounds j h));
      cost_is = omega (arith, y.cost_is);
      held =
          steps-held x.calls a u e y.counters k is reached y.word
          (plain-edge x.calls a u e edge) y.held;
      others =
          λ b j below h. counted-other u e.to j (y.counters j)
          (not-head x.calls a b e.to j is (over b below) lies h) ∙ y.others b j below h;
      word = next e y.word (plain-edge x.calls a u e edge) lies;
    }
played x p is {a} {m}
    (Run.through {u = u} {q = q} {c = c} {d = d} {k = k} {t = t} {m = m1} {w = w} {n = n1} {i = i}
    {f = f} {r = r} {l = k1} runs to lies turn inner back turn2) s n l here reached over walk zero =
    go (played x p is inner) (played x p is runs s n l here reached over walk zero)
  where
    go : Plays x p (Some t) m1 w n1 i k1 → Played x p s a u q (n + c) l k →
        Played x p s a (u + 4) r (n + (c + (d + (i + f)))) l (λ j. counter_after u (u + 4) j (k j))
    go again y =
        onto (again (u ∷ s) (y.cost + d) (λ j. counter_after_call t j (y.counters j)) to reached_t
        over_t (CallWalk.enter y.walk to turn) (λ j h e. called-head t j (y.counters j) e))
      where
        reached_t : IsReached x.calls (Some t)
        reached_t = IsReached.next reached y.word to

        over_t : (b : Function) → Below x.calls (u ∷ s) b → CallsLead x.calls b (Some t)
        over_t b (inl e) =
            subst (λ b. CallsLead x.calls b (Some t)) (sym (e ∙ here))
            (CallsLead.one reached y.word to)
        over_t b (inr h) = CallsLead.more (over b h) reached y.word to

        some : (range x.calls (Some t)).from < (range x.calls (Some t)).to
        some = is.some (Some t) reached_t

        -- a call changes no counter of this function or of those below it
        kept : (b : Function) (j : LoopSetup) → Below x.calls (u ∷ s) b →
            Contains (function x.calls b).loops j → counter_after_call t j (y.counters j)
            ≡ y.counters j
        kept b j below h =
            called-other t j (y.counters j) (not-head x.calls (Some t) b t.head j is
            (over_t b below) (record { low = omega arith; high = some }) h)

        edge : Edge
        edge = record { to = u + 4; lag = 3 }

        onto : Played x p (u ∷ s) (Some t) w n1 ((y.cost + d) + i)
            (λ j. counter_after_call t j (y.counters j)) k1 → Played x p s a (u + 4) r
            (n + (c + (d + (i + f)))) l (λ j. counter_after u (u + 4) j (k j))
        onto z = record {
          counters = λ j. counter_after u (u + 4) j (z.counters j);
          cost = z.cost + f;
          walk =
              CallWalk.come_back z.walk back
              (subst (λ b. Lies (function x.calls b) (u + 4)) (sym here) lies) turn2
              (steps-within x.calls a u (u + 4) z.counters k is reached lies (within z.walk) same
              (λ j h held_u at. absurd (omega arith)));
          cost_is = omega (arith, y.cost_is, z.cost_is);
          held =
              steps-held x.calls a u edge z.counters k is reached y.word
              (call-edge x.calls a u t to) same;
          others =
              λ b j below h. counted-other u (u + 4) j (z.counters j)
              (not-head x.calls a b (u + 4) j is (over b below) lies h)
              ∙ (z.others b j (inr below) h ∙ (kept b j (inr below) h ∙ y.others b j below h));
          word = next edge y.word (call-edge x.calls a u t to) lies;
        }
          where
            same : (j : LoopSetup) → Contains (function x.calls a).loops j → Holds j u →
                z.counters j ≤ k j
            same j h held_u =
                let e1 = z.others a j (inl (sym here)) h in
                let e2 = kept a j (inl (sym here)) h in
                let e3 = y.held j h held_u in
                omega arith
