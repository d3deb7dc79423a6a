-- The steps of a path inside a loop are rounds, and rounds are steps of a path.
use Rattle.std.proofs.Common.{◌≡◌, ◌≢◌, ℕ, ◌+◌, ◌<◌, ◌≤◌, ◌⊎◌, refl, arith, inl, inr}
use Rattle.std.proofs.Common.{ap, subst, sym, ◌∙◌, List, [], ◌∷◌, ◌++◌, Contains, true}
use Rattle.std.specs.Prelude.{nat_le, nat_lt, ◌&&◌}
use Rattle.std.proofs.lemmas.Bool.Decides.{nat_tests}
use Rattle.std.proofs.lemmas.List.Elements.{All-filter, All-contains}
use Rattle.std.proofs.lemmas.List.Elements.{All-contains_itself, filter_passes}
use Rattle.fp_setup.specs.declared.loop_list.LoopSetup.{LoopSetup}
use Rattle.region_tree.specs.Graph.{Holds, Inside, Reachable}
use Rattle.region_tree.specs.Tree.{graph}
use Rattle.region_tree.specs.Walk.{Course, Keeps, Leads, Step, counter_after, counter}
use Rattle.bound_calc.specs.Bound.{course}
use Rattle.bound_calc.specs.Section.{IsAccepted}
use Rattle.bound_calc.specs.Rounds.{inner_loops, word_after, position_after, AreIn, Avoid}
use Rattle.bound_calc.specs.Rounds.{AreSteps, AreRounds, EntersLoop, StaysInRounds, RoundsAreSteps}
use Rattle.bound_calc.specs.Rounds.AreRounds.{none, more}
use Rattle.bound_calc.proofs.Accepted.{accepted, holds-or}
use Rattle.bound_calc.proofs.Counters.{counted-other, counted-back, counted-≤}
use Rattle.bound_calc.proofs.Embed.{is_or_not}
use Rattle.bound_calc.proofs.Outermost.{cons-cases, cons-rest}
use Rattle.bound_calc.proofs.Sections.{leads-reachable}

counted-out : (u v : ℕ) (j : LoopSetup) (n : ℕ) → v ≡ j.head → (Holds j u → ⊥) →
    counter_after u v j n ≡ 0
unfolding counter_after
counted-out u v j n e out =
    go (let z : (u < j.head) ⊎ ((j.last < u) ⊎ ((j.head ≤ u) × (u ≤ j.last))) = grind arith in z)
  where
    go : (u < j.head) ⊎ ((j.last < u) ⊎ ((j.head ≤ u) × (u ≤ j.last))) → counter_after u v j n ≡ 0
    go (inl a) = grind (arith, nat_tests)
    go (inr (inl b)) = grind (arith, nat_tests)
    go (inr (inr held)) = absurd (out held)

-- an inner loop is a loop of the list, and lies inside
inner-known : (loops : List LoopSetup) (j i : LoopSetup) → Contains (inner_loops loops j) i →
    Contains loops i
inner-known loops j i h =
    All-contains (Contains loops) (inner_loops loops j) i (All-filter (λ i. nat_lt j.head i.head
    && nat_le i.last j.last) (Contains loops) loops (All-contains_itself loops)) h

is-inside : (j i : LoopSetup) → (nat_lt j.head i.head && nat_le i.last j.last) ≡ true → Inside j i
is-inside j i h = (grind (arith, nat_tests), grind (arith, nat_tests))

inner-inside : (loops : List LoopSetup) (j i : LoopSetup) →
    Contains (inner_loops loops j) i → Inside j i
inner-inside loops j i h =
    is-inside j i
    (All-contains (λ i. (nat_lt j.head i.head && nat_le i.last j.last) ≡ true) (inner_loops loops j)
    i (filter_passes (λ i. nat_lt j.head i.head && nat_le i.last j.last) loops) h)

-- the end of a list of steps
leads-ends : (x : Course) (u p : ℕ) (ts : List Step) (v q : ℕ) → Leads x u p ts v q →
    (v ≡ word_after u ts) × (q ≡ position_after p ts)
leads-ends x u p [] v q l = l
leads-ends x u p (t ∷ ts) v q l = (l.3, l.4)

leads-to : (x : Course) (u p : ℕ) (ts : List Step) (v q v' q' : ℕ) → v' ≡ v → q' ≡ q →
    Leads x u p ts v q → Leads x u p ts v' q'
leads-to x u p ts v q v' q' a b l =
    subst (λ w. Leads x u p ts w q') (sym a) (subst (λ r. Leads x u p ts v r) (sym b) l)

-- the first steps of a path
leads-frontier : (x : Course) (u p : ℕ) (after ts : List Step) (v q : ℕ) →
    Leads x u p (after ++ ts) v q → Leads x u p ts (word_after u ts) (position_after p ts)
leads-frontier x u p [] ts v q l =
    let e = leads-ends x u p ts v q l in
    leads-to x u p ts v q (word_after u ts) (position_after p ts) (sym e.0) (sym e.1) l
leads-frontier x u p (t ∷ after) ts v q l = leads-frontier x u p after ts t.from t.at l.0

keeps-frontier : (loops : List LoopSetup) (after ts : List Step) → Keeps loops (λ i. 0)
    (after ++ ts) →
    Keeps loops (λ i. 0) ts
keeps-frontier loops [] ts k = k
keeps-frontier loops (t ∷ after) ts k = keeps-frontier loops after ts k.0

kept : (loops : List LoopSetup) (ts : List Step) → Keeps loops (λ i. 0) ts → (i : LoopSetup) →
    Contains loops i → counter i 0 ts ≤ i.limit
kept loops [] k i h = omega arith
kept loops (t ∷ ts) k i h = k.1 i h

-- The steps inside a loop as rounds; the loop's counter is the number of whole ones.
record Found (x : Course) (j : LoopSetup) (p : ℕ) (before during : List Step)
    (v q : ℕ) : Type 0 where
  count : ℕ
  at : ℕ
  early : List Step
  late : List Step
  rounds : AreRounds x j p count early at
  last : AreSteps x j at late v q
  onward : Avoid j late
  steps : during ≡ late ++ early
  counts : counter j 0 (during ++ before) ≡ count
  fresh : (i : LoopSetup) → counter i 0 late ≤ counter i 0 (during ++ before)

entered-word : (j : LoopSetup) (u : ℕ) (before : List Step) → EntersLoop j u before →
    word_after u before ≡ j.head
entered-word j u [] e = e
entered-word j u (t ∷ ts) e = e.0

entered-counter : (j : LoopSetup) (u : ℕ) (before : List Step) → EntersLoop j u before →
    counter j 0 before ≡ 0
entered-counter j u [] e = refl
entered-counter j u (t ∷ ts) e = counted-out t.from t.to j (counter j 0 ts) e.0 e.1

found : (x : Course) (j : LoopSetup) (p : ℕ) (before during : List Step) (v q : ℕ) →
    Leads x x.graph.from p (during ++ before) v q →
    Keeps x.graph.loops (λ i. 0) (during ++ before) → EntersLoop j x.graph.from before →
    AreIn j during → Found x j (position_after p before) before during v q
found x j p before [] v q l k enters within =
    let e = leads-ends x x.graph.from p before v q l in
    record {
      count = 0;
      at = position_after p before;
      early = [];
      late = [];
      rounds = none;
      last = record {
        leads = (e.0 ∙ entered-word j x.graph.from before enters, e.1);
        within = tt;
        keeps = tt;
      };
      onward = tt;
      steps = refl;
      counts = entered-counter j x.graph.from before enters;
      fresh = λ i. omega arith;
    }
found x j p before (t ∷ during) v q l k enters within =
    go (found x j p before during t.from t.at l.0 k.0 enters within.0) (is_or_not t.to j.head)
  where
    steps-more : Found x j (position_after p before) before during t.from t.at →
        (y : Found x j (position_after p before) before during t.from t.at) →
        AreSteps x j y.at (t ∷ y.late) v q
    steps-more _ y = record {
      leads = (y.last.leads, l.1, l.2, l.3, l.4);
      within = (y.last.within, within.1, within.2);
      keeps = (
        y.last.keeps,
        λ i known.
            let more : counter_after t.from t.to i (counter i 0 y.late)
            ≤ counter_after t.from t.to i (counter i 0 (during ++ before)) = counted-≤ t.from t.to i
            (counter i 0 y.late) (counter i 0 (during ++ before)) (y.fresh i) in
            let bound : counter_after t.from t.to i (counter i 0 (during ++ before)) ≤ i.limit =
            k.1 i (inner-known x.graph.loops j i known) in
            omega arith,
      );
    }

    go : Found x j (position_after p before) before during t.from t.at →
        (t.to ≡ j.head) ⊎ (t.to ≢ j.head) →
        Found x j (position_after p before) before (t ∷ during) v q
    go y (inr other) = record {
      count = y.count;
      at = y.at;
      early = y.early;
      late = t ∷ y.late;
      rounds = y.rounds;
      last = steps-more y y;
      onward = (y.onward, other);
      steps = ap (λ s. t ∷ s) y.steps;
      counts = counted-other t.from t.to j (counter j 0 (during ++ before)) other ∙ y.counts;
      fresh =
          λ i.
          counted-≤ t.from t.to i (counter i 0 y.late) (counter i 0 (during ++ before)) (y.fresh i);
    }
    go y (inl head) = record {
      count = y.count + 1;
      at = q;
      early = (t ∷ y.late) ++ y.early;
      late = [];
      rounds =
          more (t ∷ y.late) y.rounds
          (subst (λ w. AreSteps x j y.at (t ∷ y.late) w q) (l.3 ∙ head) (steps-more y y), y.onward);
      last = record { leads = (l.3 ∙ head, refl); within = tt; keeps = tt };
      onward = tt;
      steps = ap (λ s. t ∷ s) y.steps;
      counts =
          counted-back t.from t.to j (counter j 0 (during ++ before)) head within.1.0 within.1.1
          ∙ ap (λ n. n + 1) y.counts;
      fresh = λ i. omega arith;
    }

pub stays_in_rounds : StaysInRounds
stays_in_rounds x j p v q before during after known w enters within =
    let l = leads-frontier x x.graph.from p after (during ++ before) v q w.leads in
    let k = keeps-frontier x.graph.loops after (during ++ before) w.keeps in
    let y = found x j p before during (word_after x.graph.from (during ++ before))
    (position_after p (during ++ before)) l k enters within in
    record {
      count = y.count;
      at = y.at;
      early = y.early;
      late = y.late;
      rounds = y.rounds;
      few = subst (λ n. n ≤ j.limit) y.counts (kept x.graph.loops (during ++ before) k j known);
      last =
          subst (λ w. AreSteps x j y.at y.late w (position_after (position_after p before) during))
          (word-same during)
          (subst (λ r. AreSteps x j y.at y.late (word_after x.graph.from (during ++ before)) r)
          (position-same during) y.last);
      onward = y.onward;
      steps = y.steps;
    }
  where
    word-same : (during : List Step) →
        word_after x.graph.from (during ++ before) ≡ word_after j.head during
    word-same [] = entered-word j x.graph.from before enters
    word-same (t ∷ ts) = refl

    position-same : (during : List Step) →
        position_after p (during ++ before) ≡ position_after (position_after p before) during
    position-same [] = refl
    position-same (t ∷ ts) = refl

-- rounds, and then a part of one more
record Joined (x : Course) (j : LoopSetup) (p : ℕ) (ts r : List Step) (v q n : ℕ) : Type 0 where
  leads : Leads x j.head p (r ++ ts) v q
  within : AreIn j (r ++ ts)
  keeps : Keeps (j ∷ inner_loops x.graph.loops j) (λ i. 0) (r ++ ts)
  counts : counter j 0 (r ++ ts) ≡ n
  same : (i : LoopSetup) → Contains (inner_loops x.graph.loops j) i → Holds i v →
      counter i 0 (r ++ ts) ≡ counter i 0 r

-- whole rounds
record Made (x : Course) (j : LoopSetup) (p : ℕ) (ts : List Step) (q n : ℕ) : Type 0 where
  leads : Leads x j.head p ts j.head q
  within : AreIn j ts
  keeps : Keeps (j ∷ inner_loops x.graph.loops j) (λ i. 0) ts
  counts : counter j 0 ts ≡ n

joined : (x : Course) (j : LoopSetup) (p m n : ℕ) (ts r : List Step) (v q : ℕ) →
    IsAccepted x.graph → Reachable x.graph j.head → n ≤ j.limit → Made x j p ts m n →
    Leads x j.head m r v q → AreIn j r → Keeps (inner_loops x.graph.loops j) (λ i. 0) r →
    Avoid j r → Joined x j p ts r v q n
joined x j p m n ts [] v q a reach few y l within keeps avoid = record {
  leads = leads-to x j.head p ts j.head m v q l.0 l.1 y.leads;
  within = y.within;
  keeps = y.keeps;
  counts = y.counts;
  same =
      λ i known held. let inside = inner-inside x.graph.loops j i known in
      let at = l.0 in
      absurd (omega (arith, held.0, inside.0));
}
joined x j p m n ts (t ∷ r) v q a reach few y l within keeps avoid =
    go (joined x j p m n ts r t.from t.at a reach few y l.0 within.0 keeps.0 avoid.0)
  where
    inner : List LoopSetup
    inner = inner_loops x.graph.loops j

    reached : Reachable x.graph t.from
    reached = leads-reachable x j.head m r t.from t.at reach l.0

    entered : (i : LoopSetup) → Contains inner i → Holds i t.to → (Holds i t.from) ⊎ (t.to ≡ i.head)
    entered i known held =
        a.entered t.from (record { to = t.to; lag = t.lag }) i reached l.1.edge
        (inner-known x.graph.loops j i known) held

    bounded : (z : Joined x j p ts r t.from t.at n) (i : LoopSetup) → Contains inner i →
        (Holds i t.from) ⊎ (Holds i t.from → ⊥) → (t.to ≡ i.head) ⊎ (t.to ≢ i.head) →
        counter_after t.from t.to i (counter i 0 (r ++ ts)) ≤ i.limit
    bounded z i known held (inr other) =
        let e = counted-other t.from t.to i (counter i 0 (r ++ ts)) other in
        let k = kept (j ∷ inner) (r ++ ts) z.keeps i (cons-rest j inner i known) in omega arith
    bounded z i known (inl held) (inl head) =
        subst (λ c. counter_after t.from t.to i c ≤ i.limit) (sym (z.same i known held))
        (keeps.1 i known)
    bounded z i known (inr out) (inl head) =
        let e = counted-out t.from t.to i (counter i 0 (r ++ ts)) head out in omega arith

    own : (z : Joined x j p ts r t.from t.at n) →
        counter_after t.from t.to j (counter j 0 (r ++ ts)) ≡ n
    own z = counted-other t.from t.to j (counter j 0 (r ++ ts)) avoid.1 ∙ z.counts

    all : (z : Joined x j p ts r t.from t.at n) (i : LoopSetup) → (j ≡ i) ⊎ (Contains inner i) →
        counter_after t.from t.to i (counter i 0 (r ++ ts)) ≤ i.limit
    all z i (inl e) =
        subst (λ k. counter_after t.from t.to k (counter k 0 (r ++ ts)) ≤ k.limit) e
        (let o = own z in omega arith)
    all z i (inr known) = bounded z i known (holds-or i t.from) (is_or_not t.to i.head)

    agrees : (z : Joined x j p ts r t.from t.at n) (i : LoopSetup) → Contains inner i →
        (Holds i t.from) ⊎ (Holds i t.from → ⊥) → (Holds i t.from) ⊎ (t.to ≡ i.head) →
        counter_after t.from t.to i (counter i 0 (r ++ ts))
        ≡ counter_after t.from t.to i (counter i 0 r)
    agrees z i known (inl held) b = ap (counter_after t.from t.to i) (z.same i known held)
    agrees z i known (inr out) (inl held) = absurd (out held)
    agrees z i known (inr out) (inr head) =
        counted-out t.from t.to i (counter i 0 (r ++ ts)) head out
        ∙ sym (counted-out t.from t.to i (counter i 0 r) head out)

    go : Joined x j p ts r t.from t.at n → Joined x j p ts (t ∷ r) v q n
    go z = record {
      leads = (z.leads, l.1, l.2, l.3, l.4);
      within = (z.within, within.1, within.2);
      keeps = (z.keeps, λ i known. all z i (cons-cases j inner i known));
      counts = own z;
      same =
          λ i known held.
          agrees z i known (holds-or i t.from) (entered i known (subst (λ w. Holds i w) l.3 held));
    }

made : (x : Course) (j : LoopSetup) (p : ℕ) {n : ℕ} {ts : List Step} {q : ℕ} → IsAccepted x.graph →
    Reachable x.graph j.head → AreRounds x j p n ts q → n ≤ j.limit → Made x j p ts q n
made x j p a reach none few =
    record { leads = (refl, refl); within = tt; keeps = tt; counts = refl }
made x j p a reach (more {n = n} {m = m} {q = q} {ts = ts} [] rounds round) few = absurd round
made x j p a reach (more {n = n} {m = m} {q = q} {ts = ts} (t ∷ r) rounds round) few =
    go (made x j p a reach rounds (omega arith))
  where
    inner : List LoopSetup
    inner = inner_loops x.graph.loops j

    head : t.to ≡ j.head
    head = sym round.0.leads.3

    onto : Joined x j p ts r t.from t.at n → Made x j p (t ∷ (r ++ ts)) q (n + 1)
    onto z = record {
      leads = (z.leads, round.0.leads.1, round.0.leads.2, round.0.leads.3, round.0.leads.4);
      within = (z.within, round.0.within.1, round.0.within.2);
      keeps = (z.keeps, λ i known. all i (cons-cases j inner i known));
      counts = own;
    }
      where
        own : counter_after t.from t.to j (counter j 0 (r ++ ts)) ≡ n + 1
        own =
            counted-back t.from t.to j (counter j 0 (r ++ ts)) head round.0.within.1.0
            round.0.within.1.1 ∙ ap (λ c. c + 1) z.counts

        all : (i : LoopSetup) → (j ≡ i) ⊎ (Contains inner i) →
            counter_after t.from t.to i (counter i 0 (r ++ ts)) ≤ i.limit
        all i (inl e) =
            subst (λ k. counter_after t.from t.to k (counter k 0 (r ++ ts)) ≤ k.limit) e
            (let o = own in omega arith)
        all i (inr known) =
            let other : t.to ≢ i.head = λ h. let inside = inner-inside x.graph.loops j i known in
            let at = head in absurd (omega (arith, inside.0)) in
            let e = counted-other t.from t.to i (counter i 0 (r ++ ts)) other in
            let k = kept (j ∷ inner) (r ++ ts) z.keeps i (cons-rest j inner i known) in
            omega arith

    go : Made x j p ts m n → Made x j p (t ∷ (r ++ ts)) q (n + 1)
    go y =
        onto (joined x j p m n ts r t.from t.at a reach
        (omega arith) y round.0.leads.0 round.0.within.0 round.0.keeps.0 round.1)

pub rounds_are_steps : RoundsAreSteps
rounds_are_steps t slots thread j p v q ts is known reach b =
    let x : Course = course t slots thread in
    let a : IsAccepted (graph t) = accepted t is in
    let y : Made x j p b.early b.at b.count = made x j p a reach b.rounds b.few in
    let z : Joined x j p b.early b.late v q b.count = joined x j p b.at b.count b.early
    b.late v q a reach b.few y b.last.leads b.last.within b.last.keeps b.onward in
    subst (λ s. Leads x j.head p s v q × AreIn j s × Keeps (j ∷ inner_loops t.loops j) (λ i. 0) s)
    (sym b.steps) (z.leads, z.within, z.keeps)
