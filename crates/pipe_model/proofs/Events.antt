-- The events that a run collects.
use Rattle.std.proofs.Common.{◌≡◌, ℕ, suc, ◌-◌, ◌<◌, ◌≤◌, ◌⊎◌, inl, inr, List, ◌++◌}
use Rattle.std.proofs.Common.{Some, None, refl, ap, sym, ◌∙◌, subst, arith, append-nil}
use Rattle.std.proofs.lemmas.Bool.{cases_lt}
use Rattle.std.proofs.lemmas.List.{get_or_past}
use Rattle.rv_exec.specs.declared.outcome.Event.{Event}
use Rattle.core_model.specs.World.{Start, Took, world, events, events_of, event_of, newest}
use Rattle.core_model.specs.World.Took.{Idle, Lost, Ran}
use Rattle.core_model.proofs.Turns.{nexts, ages, turn-older}
use Rattle.pipe_model.specs.Relation.{turn_at, event_in, of_thread}
use Rattle.pipe_model.specs.PipelineLaws.{EventsGrow}

event-of : (i c : ℕ) (t : Took) → event_of i c t ≡ of_thread i (event_in c t)
event-of i c Idle = refl
event-of i c (Lost k) = refl
event-of i c (Ran k pc word None) = refl
event-of i c (Ran k pc word (Some e)) = refl

-- the turn of cycle m, three cycles later
older : (s : Start) (m : ℕ) → turn_at s (suc (suc (suc (suc m)))) 3 ≡ newest (world s (suc m))
older s m =
    turn-older s (suc (suc (suc m))) 2 ∙ turn-older s (suc (suc m)) 1 ∙ turn-older s (suc m) 0

one-more : (s : Start) (i m : ℕ) → events_of i (world s (suc m)).turns
    ≡ events_of i (world s m).turns ++ of_thread i (event_in m (newest (world s (suc m))))
one-more s i m =
    rw ((nexts s m).turns, ages s m) (ap (λ (es : List Event). events_of i (world s m).turns ++ es)
    (event-of i m (newest (world s (suc m)))))

pub grows : EventsGrow
grows s i c = go (cases_lt 3 c)
  where
    go : (3 < c) ⊎ (c ≤ 3) →
        events s i (suc c) ≡ events s i c ++ of_thread i (event_in (c - 4) (turn_at s c 3))
    go (inl l) =
        let m : ℕ = c - 4 in
        let next : suc c - 4 ≡ suc m = omega arith in
        let there : suc (suc (suc (suc m))) ≡ c = omega arith in
        let turn : turn_at s c 3 ≡ newest (world s (suc m)) =
        subst (λ (n : ℕ). turn_at s n 3 ≡ newest (world s (suc m))) there (older s m) in
        rw (next, turn) (one-more s i m)
    go (inr l) =
        let next : suc c - 4 ≡ 0 = omega arith in
        let now : c - 4 ≡ 0 = omega arith in
        let none : turn_at s c 3 ≡ Idle = get_or_past (world s c).turns 3 Idle (rw (ages s c) l) in
        rw (next, now, none) (sym (append-nil (events_of i (world s 0).turns)))
