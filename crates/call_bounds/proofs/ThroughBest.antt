-- The best costs to a routine's returns, each with the jump back, are the best costs through it.
use Rattle.std.proofs.Common.{◌≡◌, ℕ, ◌+◌, ◌<◌, ◌≤◌, refl, arith, sym, subst, ◌∙◌}
use Rattle.std.proofs.Common.{min, true, false, Bool, Some, List, slice_index_or}
use Rattle.bound_calc.specs.declared.matrix.Matrix.{Matrix}
use Rattle.bound_calc.specs.Best.{Covers, Entries, IsBest, ceiling}
use Rattle.bound_calc.specs.Propagation.{Ended, matrix_at}
use Rattle.call_bounds.specs.declared.routines.Routine.{Routine}
use Rattle.call_bounds.specs.Calls.{is_back}
use Rattle.call_bounds.specs.CallWalk.{Route}
use Rattle.call_bounds.specs.Runs.{Through}
use Rattle.call_bounds.proofs.Composed.{RunsTo}

covers-sum : (a two c one e n : ℕ) → min a n ≤ one → c ≡ a + two →
    min (one + two) n ≤ e → min c n ≤ e
covers-sum a two c one e n h is h' = omega arith

among-sum : (a two d one e n : ℕ) → min one n ≡ min a n → d ≡ one + two → min e n ≡ min d n →
    min e n ≡ min (a + two) n
among-sum a two d one e n h is h' = omega arith

pub through-best : (x : Route) (t : Routine) (address : ℕ → ℕ)
    (at : List Matrix) (ends : List Bool) (n : ℕ) (m : Entries) →
    ((u p c q : ℕ) → RunsTo x (Some t) u p c q → (k : ℕ) × (k < n) × (address k ≡ u)) →
    ((k : ℕ) → k < n → IsBest (matrix_at at k) (RunsTo x (Some t) (address k))) →
    ((k : ℕ) → k < n → slice_index_or ends k false ≡ is_back (x.calls.word (address k))) →
    IsBest m (Ended x.positions ends at n) → IsBest m (Through x t)
through-best x t address at ends n m placed best marks b =
    (covers, λ p e q is. let z = b.1 p e q is in among p e q z.0 z.1 z.2)
  where
    covers : Covers m (Through x t)
    covers p c q h = go (placed h.word p h.one h.at (record { counters = h.counters; run = h.run }))
      where
        go : (k : ℕ) × (k < n) × (address k ≡ h.word) →
            (e : ℕ) × (m p q ≡ Some e) × (min c ceiling ≤ e)
        go (k, lt, same) =
            let one = (best k lt).0 p h.one h.at (subst (λ u. RunsTo x (Some t) u p h.one h.at)
            (sym same) (record { counters = h.counters; run = h.run })) in
            let mark : slice_index_or ends k false ≡ true =
            marks k lt ∙ subst (λ u. is_back (x.calls.word u) ≡ true) (sym same) h.back in
            let s = b.0 p (one.0 + h.two) q (record {
              index = k;
              below = lt;
              is = mark;
              jump = record {
                at = h.at;
                one = one.0;
                two = h.two;
                first = one.1;
                second = h.turn;
                cost = refl;
              };
            }) in
            (s.0, s.1, covers-sum h.one h.two c one.0 s.0 ceiling one.2 h.cost s.2)

    among : (p e q d : ℕ) → Ended x.positions ends at n p d q → min e ceiling ≡ min d ceiling →
        (c : ℕ) × Through x t p c q × (min e ceiling ≡ min c ceiling)
    among p e q d y is =
        let r = (best y.index y.below).1 p y.jump.one y.jump.at y.jump.first in
        let run = r.1 in (
          r.0 + y.jump.two,
          record {
            word = address y.index;
            at = y.jump.at;
            one = r.0;
            two = y.jump.two;
            counters = run.counters;
            run = run.run;
            back = sym (marks y.index y.below) ∙ y.is;
            turn = y.jump.second;
            cost = refl;
          },
          among-sum r.0 y.jump.two d y.jump.one e ceiling r.2 y.jump.cost is,
        )
