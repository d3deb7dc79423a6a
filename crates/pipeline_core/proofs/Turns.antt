-- The byte of a turn.
use Rattle.std.proofs.Common.{◌≡◌, ℕ, ◌+◌, ◌-◌, ◌<◌, ◌≤◌, nat_lt, Bool, true, false, inl, inr}
use Rattle.std.proofs.Common.{refl, arith}
use Rattle.std.specs.Prelude.{nat_le, if◌then◌else◌}
use Rattle.std.proofs.lemmas.Bool.Decides.{nat_tests}
use Rattle.pipe_model.specs.declared.stage_registers.Held.TheVariants.{Bubble, Flushed, Issue}
use Rattle.std.proofs.lemmas.Bool.{cases_lt}
use Rattle.pipeline_core.specs.Turns.{is_bubble, is_issue, next_turn, turn_of}

-- a byte below 8 is an issue
pub of_issue : {A : Type 0} (turn : ℕ) (x : A) → turn < 8 → turn_of turn x ≡ Issue turn x
unfolding turn_of
of_issue turn x below = rw tested refl
  where
    tested : nat_lt turn 8 ≡ true
    tested = grind (arith, nat_tests)

pub of_tested : {A : Type 0} (turn : ℕ) (x : A) → nat_lt turn 8 ≡ true →
    turn_of turn x ≡ Issue turn x
unfolding turn_of
of_tested turn x tested = rw tested refl

-- one from 8 to 15 is a flushed turn
pub of_flushed : {A : Type 0} (k : ℕ) (x : A) → k < 8 → turn_of (k + 8) x ≡ Flushed k
unfolding turn_of
of_flushed k x below = rw (over, under, less) refl
  where
    over : nat_lt (k + 8) 8 ≡ false
    over = grind (arith, nat_tests)

    under : nat_lt (k + 8) 16 ≡ true
    under = grind (arith, nat_tests)

    less : (k + 8) - 8 ≡ k
    less = omega arith

pub of_flushed_byte : {A : Type 0} (turn : ℕ) (x : A) → 8 ≤ turn → turn < 16 →
    turn_of turn x ≡ Flushed (turn - 8)
unfolding turn_of
of_flushed_byte turn x over under = rw (tested, inside) refl
  where
    tested : nat_lt turn 8 ≡ false
    tested = grind (arith, nat_tests)

    inside : nat_lt turn 16 ≡ true
    inside = grind (arith, nat_tests)

-- any other one is a bubble
pub of_bubble : {A : Type 0} (x : A) → turn_of 16 x ≡ Bubble
unfolding turn_of
of_bubble x = refl

pub of_bubble_byte : {A : Type 0} (turn : ℕ) (x : A) → 16 ≤ turn → turn_of turn x ≡ Bubble
unfolding turn_of
of_bubble_byte turn x beyond = rw (tested, outside) refl
  where
    tested : nat_lt turn 8 ≡ false
    tested = grind (arith, nat_tests)

    outside : nat_lt turn 16 ≡ false
    outside = grind (arith, nat_tests)

pub tests_bubble : {A : Type 0} (turn : ℕ) (x : A) → nat_le 16 turn ≡ is_bubble (turn_of turn x)
tests_bubble turn x =
    elim (cases_lt turn 8) [
      | inl issue ↦ rw (of_issue turn x issue) (outside turn (omega (arith, issue)))
      | inr over ↦
          elim (cases_lt turn 16) [
            | inl below ↦ rw (of_flushed_byte turn x over below) (outside turn below)
            | inr beyond ↦ rw (of_bubble_byte turn x beyond) (inside turn beyond)
          ]
    ]
  where
    outside : (turn : ℕ) → turn < 16 → nat_le 16 turn ≡ false
    outside turn h = grind (arith, nat_tests)

    inside : (turn : ℕ) → 16 ≤ turn → nat_le 16 turn ≡ true
    inside turn h = grind (arith, nat_tests)

-- a byte of 8 or more is no issue, and has the same turn with any content
pub no_issue : {A : Type 0} (turn : ℕ) (x : A) → nat_lt turn 8 ≡ false →
    is_issue (turn_of turn x) ≡ false
unfolding turn_of
no_issue {A} turn x over = rw over (go (nat_lt turn 16))
  where
    go : (b : Bool) → is_issue {A = A} (if b then Flushed (turn - 8) else Bubble) ≡ false
    go true = refl
    go false = refl

pub passes : {A B : Type 0} (turn : ℕ) (x : A) (y : B) → is_issue (turn_of turn y) ≡ false →
    turn_of turn x ≡ next_turn (turn_of turn y)
unfolding turn_of
passes turn x y = go (nat_lt turn 8) (nat_lt turn 16)
  where
    go : (a b : Bool) →
        is_issue (if a then Issue turn y else if b then Flushed (turn - 8) else Bubble) ≡ false →
        (if a then Issue turn x else if b then Flushed (turn - 8) else Bubble)
        ≡ next_turn (if a then Issue turn y else if b then Flushed (turn - 8) else Bubble)
    go true b h = absurd (cc h)
    go false true h = refl
    go false false h = refl
