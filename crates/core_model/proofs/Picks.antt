-- A picked thread is one of the eight.
use Rattle.std.proofs.Common.{◌≡◌, ℕ, ◌<◌, ◌%◌, Bool, true, false, List}
use Rattle.std.proofs.Common.{[], ◌∷◌, Some, None, cond, refl, arith}
use Rattle.std.specs.Prelude.{if◌then◌else◌, Option, find, nat_lt, length, slice_index_or}
use Rattle.std.proofs.lemmas.Bool.Decides.{nat_tests}
use Rattle.slot_table.specs.Frame.{turn, turn_in, turn_of_slot, frame}
use Rattle.slot_table.specs.declared.frame.Turn.TheVariants.{Thread, Soft}
use Rattle.slot_scheduler.specs.declared.picking.Pick.TheVariants.{Issue}
use Rattle.slot_scheduler.specs.declared.picking.Sched.{Sched}
use Rattle.slot_scheduler.specs.Picking.{Picked, IsPick, pick, pick_in, donation}
use Rattle.slot_scheduler.specs.Picking.{pick_of_search, takes_donated, after_last, is_awake}

-- every number of the list is below eight
abbrev Low : List ℕ → Type 0
Low [] = Unit {0}
Low (x ∷ xs) = (x < 8) × Low xs

find-low : (p : ℕ → Bool) (xs : List ℕ) (k : ℕ) → Low xs → find p xs ≡ Some k → k < 8
find-low p [] k l h = cc
find-low p (x ∷ xs) k l h = go (find-low p xs k l.1) (p x) h
  where
    go : (find p xs ≡ Some k → k < 8) → (b : Bool) → cond b (Some x) (find p xs) ≡ Some k → k < 8
    go f true e = let same : x ≡ k = cc in rw (← same) l.0
    go f false e = f e

low : (last : ℕ) → Low (after_last last)
unfolding after_last
low last = (
  omega arith,
  (
    omega arith,
    (omega arith, (omega arith, (omega arith, (omega arith, (omega arith, (omega arith, tt)))))),
  ),
)

found-below : (o : Option ℕ) (last : ℕ) → ((k : ℕ) → o ≡ Some k → k < 8) →
    IsPick (pick_of_search o last).pick
found-below None last h = tt
found-below (Some k) last h = h k refl

donated-below : (q : Sched) (now last : ℕ) → IsPick (donation q now last).pick
unfolding donation
donated-below q now last =
    found-below (find (takes_donated q now) (after_last last)) last
    (λ k e. find-low (takes_donated q now) (after_last last) k (low last) e)

slot-below : (q : Sched) (now last slot : ℕ) → IsPick (pick_in q now last (turn_of_slot slot)).pick
slot-below q now last slot = go (nat_lt slot 8) refl
  where
    own : (b : Bool) → slot < 8 → IsPick (let p : Picked = if b
        then record { pick = Issue slot; last = last }
        else donation q now last in p.pick)
    own true h = h
    own false h = donated-below q now last

    go : (b : Bool) → nat_lt slot 8 ≡ b →
        IsPick (pick_in q now last (if b then Thread slot else Soft)).pick
    go true e = own (is_awake q now slot) (grind (arith, nat_tests))
    go false e = donated-below q now last

turn-below : (q : Sched) (now last c : ℕ) (slots : List ℕ) →
    IsPick (pick_in q now last (turn_in slots c)).pick
turn-below q now last c [] = tt
turn-below q now last c (slot ∷ slots) =
    slot-below q now last (slice_index_or (slot ∷ slots) (c % length (slot ∷ slots)) 14)

pub pick-below : (q : Sched) (c now last : ℕ) → IsPick (pick q c now last).pick
unfolding pick turn
pick-below q c now last = turn-below q now last c (frame q.slots)
