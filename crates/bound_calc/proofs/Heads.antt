-- The costs at a word: those from below, and at a loop's head the loop's rounds after them.
use Rattle.std.proofs.Common.{◌≡◌, ℕ, zero, suc, ◌+◌, ◌<◌, ◌≤◌, ◌⊎◌}
use Rattle.std.proofs.Common.{◌≢◌, refl, arith, inl, inr, subst, sym}
use Rattle.bound_calc.proofs.BestLaws.{same}
use Rattle.bound_calc.proofs.Counters.{counted-back, counted-in, counted-other, kept, moved}
use Rattle.bound_calc.proofs.Embed.{Embedded, embed, is_or_not, same_head}
use Rattle.bound_calc.proofs.Split.{Split, split}
use Rattle.bound_calc.specs.Best.{Costs, Either, Stays, Then}
use Rattle.bound_calc.specs.Context.{IsNested, IsScope, May, Net, Scope, Walk}
use Rattle.bound_calc.specs.PathCosts.{Enters, Round, Rounds}
use Rattle.fp_setup.specs.declared.loop_list.LoopSetup.{LoopSetup}
use Rattle.region_tree.specs.Graph.{Holds}
use Rattle.region_tree.specs.Walk.{counter_after}
use Rattle.bound_calc.specs.Context.Walk.{start, step}

-- a word that is no head
pub from_below : {g : Net} {s : Scope} {p n v q c : ℕ} {k : LoopSetup → ℕ} → Walk g s p n v q c k →
    ((j : LoopSetup) → s.loops j → v ≢ j.head) → Enters g s v p c q
from_below (start o) no_head = inl (refl, (o, refl, refl))
from_below {g} {s} {p} (step {n} {u} {q} {c} {d} {v} {r} {k} w a high may f) no_head = go may
  where
    go : May s u v → Enters g s v p (c + d) r
    go (inl up) = inr (record {
      from = u;
      at = q;
      one = c;
      two = d;
      walk = record { steps = n; counters = k; walk = w };
      arc = a;
      up = up;
      high = high;
      cost = refl;
    })
    go (inr (j, known, e, held)) = absurd (no_head j known e)

-- one more round
pub rounds-more : {g : Net} {j : LoopSetup} (m : ℕ) {p a q b r : ℕ} {f : Costs} →
    Then f (Rounds g j m) p a q → Round g j q b r → Then f (Rounds g j (suc m)) p (a + b) r
rounds-more m {q = q} {b = b} x y = record {
  at = x.at;
  one = x.one;
  two = x.two + b;
  first = x.first;
  second = record { at = q; one = x.two; two = b; first = x.second; second = inr y; cost = refl };
  cost = omega (arith, x.cost);
}

-- at a head: costs from below, then as many rounds as the loop's counter
pub at_head : {g : Net} {s : Scope} (fuel : ℕ) (j : LoopSetup) {p n v q c : ℕ} {k : LoopSetup → ℕ} →
    IsNested g → IsScope g s → s.loops j →
    Walk g s p n v q c k → v ≡ j.head → n < fuel → Then (Enters g s j.head) (Rounds g j (k j)) p c q
at_head zero j t part h w e few = absurd (omega arith)
at_head (suc fuel) j {p} t part h (start o) e few = record {
  at = p;
  one = 0;
  two = 0;
  first = inl (sym e, (o, refl, refl));
  second = (o, refl, refl);
  cost = refl;
}
at_head {g} {s} (suc fuel) j {p} t part h
    (step {n} {u} {q} {c} {d} {v} {r} {k} w a high may f) e few =
    go (λ held. let x : Split g s j p n u q c k = split j t part h w held in
    back held x (at_head fuel j t part h x.first refl (omega (arith, x.steps)))) may
  where
    arc : g.arc u q d j.head r
    arc = subst (λ x. g.arc u q d x r) e a

    back : Holds j u → (x : Split g s j p n u q c k) →
        Then (Enters g s j.head) (Rounds g j (x.counters_1 j)) p x.cost_1 x.at →
        Then (Enters g s j.head) (Rounds g j (counter_after u v j (k j))) p (c + d) r
    back held x y =
        let round : Round g j x.at (x.cost_2 + d) r = record {
          from = u;
          at = q;
          one = x.cost_2;
          two = d;
          walk = record { steps = x.steps_2; counters = x.counters_2; walk = x.rest };
          arc = arc;
          held = held;
          cost = refl;
        } in
        let count : suc (x.counters_1 j) ≡ counter_after u v j (k j) =
        (let z = counted-back u v j (k j) e held.0 held.1 in omega (arith, x.counter)) in
        let sums : x.cost_1 + (x.cost_2 + d) ≡ c + d = omega (arith, x.cost) in
        subst (λ cost. Then (Enters g s j.head) (Rounds g j (counter_after u v j (k j))) p cost r)
        sums (subst (λ m. Then (Enters g s j.head) (Rounds g j m) p (x.cost_1 + (x.cost_2 + d)) r)
        count (rounds-more (x.counters_1 j) y round))

    go : (Holds j u →
        Then (Enters g s j.head) (Rounds g j (counter_after u v j (k j))) p (c + d) r) → May s u v →
        Then (Enters g s j.head) (Rounds g j (counter_after u v j (k j))) p (c + d) r
    go before (inl up) = record {
      at = r;
      one = c + d;
      two = 0;
      first = inr (record {
        from = u;
        at = q;
        one = c;
        two = d;
        walk = record { steps = n; counters = k; walk = w };
        arc = arc;
        up = omega arith;
        high = omega arith;
        cost = refl;
      });
      second =
          subst (λ m. Rounds g j m r 0 r) (sym (counted-in u v j (k j) e up))
          (t.lands a, refl, refl);
      cost = omega arith;
    }
    go before (inr (i, known, e', held)) =
        before (subst (λ l. Holds l u)
        (same_head t i j (part.known i known) (part.known j h) (omega arith)) held)

-- a cost from below is that of a path; the counters of the loops with this head are 0
pub record Fresh (g : Net) (s : Scope) (v p c q : ℕ) : Type 0 where
  pub steps : ℕ
  pub counters : LoopSetup → ℕ
  pub walk : Walk g s p steps v q c counters
  pub zeros : (j : LoopSetup) → v ≡ j.head → counters j ≡ 0

pub enter : {g : Net} {s : Scope} {v p c q : ℕ} → IsScope g s → Enters g s v p c q →
    Fresh g s v p c q
enter {g} {s} {v} {p} {c} {q} part (inl (e, (o, same, none))) =
    record {
      steps = 0;
      counters = λ _. 0;
      walk =
          subst (λ c. Walk g s p 0 v q c (λ _. 0)) (sym none)
          (subst (λ q. Walk g s p 0 v q 0 (λ _. 0)) same
          (subst (λ v. Walk g s p 0 v p 0 (λ _. 0)) (sym e) (start o)));
      zeros = λ j e. refl;
    }
enter {g} {s} {v} {p} {c} {q} part (inr x) = record {
  steps = x.walk.steps + 1;
  counters = λ i. counter_after x.from v i (x.walk.counters i);
  walk =
      subst (λ c. Walk g s p (x.walk.steps + 1) v q c
      (λ i. counter_after x.from v i (x.walk.counters i))) (sym x.cost)
      (step x.walk.walk x.arc x.high (inl x.up) (λ i known. small i known (is_or_not v i.head)));
  zeros = λ j e. counted-in x.from v j (x.walk.counters j) e x.up;
}
  where
    small : (i : LoopSetup) → s.loops i → (v ≡ i.head) ⊎ (v ≢ i.head) →
        counter_after x.from v i (x.walk.counters i) ≤ i.limit
    small i known (inl e) = let z = counted-in x.from v i (x.walk.counters i) e x.up in omega arith
    small i known (inr other) =
        let z = counted-other x.from v i (x.walk.counters i) other in
        let y = kept x.walk.walk i known in omega arith

-- rounds within the bound extend a path to the head
pub record Rounded (g : Net) (s : Scope) (j : LoopSetup) (m p c q : ℕ) : Type 0 where
  pub steps : ℕ
  pub counters : LoopSetup → ℕ
  pub walk : Walk g s p steps j.head q c counters
  pub few : counters j ≤ m

pub rounds_walk : {g : Net} {s : Scope} (j : LoopSetup) (m : ℕ) {p c q : ℕ} →
    IsNested g → IsScope g s → s.loops j → m ≤ j.limit →
    Then (Enters g s j.head) (Rounds g j m) p c q → Rounded g s j m p c q
rounds_walk {g} {s} j zero {p} {c} {q} t part h le x =
    let f : Fresh g s j.head p x.one x.at = enter part x.first in
    let sums : x.one ≡ c = omega (arith, x.cost, x.second.2) in
    let none : f.counters j ≤ 0 = omega (arith, f.zeros j refl) in
    record {
      steps = f.steps;
      counters = f.counters;
      walk = moved x.second.1 sums f.walk;
      few = none;
    }
rounds_walk {g} {s} j (suc m) {p} {c} {q} t part h le x =
    go (rounds_walk j m t part h (omega arith) (record {
      at = x.at;
      one = x.one;
      two = x.second.one;
      first = x.first;
      second = x.second.first;
      cost = refl;
    })) x.second.second
  where
    small : {n v q c : ℕ} {k : LoopSetup → ℕ} → Walk g s p n v q c k → (u : ℕ) →
        counter_after u j.head j (k j) ≤ j.limit → (i : LoopSetup) → s.loops i →
        (j.head ≡ i.head) ⊎ (j.head ≢ i.head) → counter_after u j.head i (k i) ≤ i.limit
    small {k = k} w u le i known (inl same) =
        subst (λ l. counter_after u j.head l (k l) ≤ l.limit)
        (same_head t j i (part.known j h) (part.known i known) same) le
    small {k = k} w u le i known (inr other) =
        let z = counted-other u j.head i (k i) other in let y = kept w i known in omega arith

    go : Rounded g s j m p (x.one + x.second.one) x.second.at →
        Either (Stays g.own) (Round g j) x.second.at x.second.two q → Rounded g s j (suc m) p c q
    go y (inl stays) =
        let sums : x.one + x.second.one ≡ c = omega (arith, x.cost, x.second.cost, stays.2) in
        record {
          steps = y.steps;
          counters = y.counters;
          walk = moved stays.1 sums y.walk;
          few = omega (arith, y.few);
        }
    go y (inr z) =
        let e : Embedded g s j p z.from z.at ((x.one + x.second.one) + z.one)
        y.counters z.walk.counters = embed j t part h y.walk z.walk.walk in
        let sums : e.cost + z.two ≡ c = omega (arith, x.cost, x.second.cost, z.cost, e.cost_is) in
        let up : j.head ≤ j.last = t.ordered j (part.known j h) in
        let count : counter_after z.from j.head j (e.counters j) ≡ e.counters j + 1 =
        counted-back z.from j.head j (e.counters j) refl z.held.0 z.held.1 in
        record {
          steps = e.steps + 1;
          counters = λ i. counter_after z.from j.head i (e.counters i);
          walk =
              moved refl sums (step e.walk z.arc (let high = (part.within j h).1 in omega arith)
              (inr (j, h, refl, z.held)) (λ i known. small e.walk z.from
              (omega (arith, y.few, e.counter, count)) i known (is_or_not j.head i.head)));
          few = omega (arith, y.few, e.counter, count);
        }
