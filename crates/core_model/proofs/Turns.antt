-- The effect of one turn on the world, at any distance.
use Rattle.std.proofs.Common.{◌≡◌, ℕ, zero, suc, ◌+◌, ◌-◌, ◌<◌, ◌≤◌, inl, inr}
use Rattle.std.proofs.Common.{◌⊎◌, Bool, true, false, ◌∷◌, get_or, set, length}
use Rattle.std.proofs.Common.{refl, ap, sym, ◌∙◌, subst, arith, add-zero, add-suc}
use Rattle.std.specs.Prelude.{if◌then◌else◌, Option, nat_lt}
use Rattle.std.proofs.lemmas.List.{get_or_past}
use Rattle.std.proofs.lemmas.Bool.{cases_lt}
use Rattle.std.proofs.lemmas.Bool.Decides.{nat_tests}
use Rattle.rv_exec.specs.declared.outcome.Effect.{Effect}
use Rattle.slot_scheduler.specs.declared.picking.Pick.{Pick}
use Rattle.slot_scheduler.specs.declared.picking.Pick.TheVariants.{Issue, Bubble}
use Rattle.slot_scheduler.specs.Picking.{Picked, IsPick, pick}
use Rattle.timer_unit.specs.Time.{time}
use Rattle.core_model.specs.World.{Start, World, Took, after_pick, after_turn, recent, world}
use Rattle.core_model.specs.World.{thread_of, sched_of, newest, after_issue, after_no_issue}
use Rattle.core_model.specs.World.{issue_of, words_after, registers_after, latches_after}
use Rattle.core_model.specs.World.Took.{Idle, Lost, Ran}
use Rattle.core_model.proofs.Picks.{pick-below}

-- only the list of turns has changed
pub record Same (w after : World) : Type 0 where
  pub threads : after.threads ≡ w.threads
  pub words : after.d_words ≡ w.d_words
  pub registers : after.registers ≡ w.registers
  pub latches : after.latches ≡ w.latches

pub record Late (n : ℕ) (w after : World) (k : ℕ) : Type 0 where
  pub same : Same w after
  pub below : k < 8
  pub late : n < (thread_of w k).ready

pub record Does (s : Start) (n : ℕ) (w after : World) (k pc word : ℕ)
    (effect : Option Effect) : Type 0 where
  pub below : k < 8
  pub ready : (thread_of w k).ready ≤ n
  pub pc_is : pc ≡ (thread_of w k).pc
  pub word_is : word ≡ (issue_of s n w k).word
  pub effect_is : effect ≡ (issue_of s n w k).effect
  pub threads : after.threads ≡ set w.threads k (issue_of s n w k).thread
  pub words : after.d_words ≡ words_after s.size effect w.d_words
  pub registers : after.registers ≡ registers_after effect w.registers
  pub latches : after.latches ≡ latches_after s n k effect w.latches

-- the world after the turn of cycle n
abbrev pub Turned : Start → ℕ → World → Took → World → Type 0
Turned s n w Idle after = Same w after
Turned s n w (Lost k) after = Late n w after k
Turned s n w (Ran k pc word effect) after = Does s n w after k pc word effect

takes-turned : (s : Start) (n : ℕ) (w : World) (last : ℕ) (o : Pick) → IsPick o →
    Turned s n w (newest (after_pick s n w last o)) (after_pick s n w last o)
takes-turned s n w last Bubble h =
    record { threads = refl; words = refl; registers = refl; latches = refl }
takes-turned s n w last (Issue k) h = go (nat_lt n (thread_of w k).ready) refl
  where
    go : (b : Bool) → nat_lt n (thread_of w k).ready ≡ b →
        (let after : World = if b then after_no_issue w last (Lost k)
        else after_issue s n w last k (issue_of s n w k) in Turned s n w (newest after) after)
    go true e = record {
      same = record { threads = refl; words = refl; registers = refl; latches = refl };
      below = h;
      late = grind (arith, nat_tests);
    }
    go false e = record {
      below = h;
      ready = grind (arith, nat_tests);
      pc_is = refl;
      word_is = refl;
      effect_is = refl;
      threads = refl;
      words = refl;
      registers = refl;
      latches = refl;
    }

takes-turns : (s : Start) (n : ℕ) (w : World) (last : ℕ) (o : Pick) →
    (after_pick s n w last o).turns ≡ newest (after_pick s n w last o) ∷ w.turns
takes-turns s n w last Bubble = refl
takes-turns s n w last (Issue k) = go (nat_lt n (thread_of w k).ready)
  where
    go : (b : Bool) → (let after : World = if b then after_no_issue w last (Lost k)
        else after_issue s n w last k (issue_of s n w k) in after.turns ≡ newest after ∷ w.turns)
    go true = refl
    go false = refl

takes-last : (s : Start) (n : ℕ) (w : World) (last : ℕ) (o : Pick) →
    (after_pick s n w last o).last ≡ last
takes-last s n w last Bubble = refl
takes-last s n w last (Issue k) = go (nat_lt n (thread_of w k).ready)
  where
    go : (b : Bool) → (let after : World = if b then after_no_issue w last (Lost k)
        else after_issue s n w last k (issue_of s n w k) in after.last ≡ last)
    go true = refl
    go false = refl

earlier_is : (s : Start) (c : ℕ) → (recent s c).earlier ≡ world s (c - 2)
unfolding recent world
earlier_is s zero = refl
earlier_is s (suc zero) = refl
earlier_is s (suc (suc c)) = let e : suc (suc c) - 2 ≡ c = omega arith in rw e refl

pub next_world : (s : Start) (c : ℕ) →
    world s (suc c) ≡ after_turn s c (world s c) (sched_of (world s (c - 2)))
unfolding recent world
next_world s c = ap (λ (w : World). after_turn s c (recent s c).now (sched_of w)) (earlier_is s c)

-- the pick of cycle c
abbrev pub picked : Start → ℕ → Picked
picked s c = pick (sched_of (world s (c - 2))) c (time s.period c) (world s c).last

pub next_takes : (s : Start) (c : ℕ) →
    world s (suc c) ≡ after_pick s c (world s c) (picked s c).last (picked s c).pick
unfolding after_turn
next_takes s c = next_world s c

pub record Next (s : Start) (c : ℕ) : Type 0 where
  pub turned : Turned s c (world s c) (newest (world s (suc c))) (world s (suc c))
  pub turns : (world s (suc c)).turns ≡ newest (world s (suc c)) ∷ (world s c).turns

pub nexts : (s : Start) (c : ℕ) → Next s c
nexts s c = let P : World → Type 0 = λ x. Turned s c (world s c) (newest x) x in record {
  turned =
      subst P (sym (next_takes s c))
      (takes-turned s c (world s c) (picked s c).last (picked s c).pick
      (pick-below (sched_of (world s (c - 2))) c (time s.period c) (world s c).last));
  turns = rw (next_takes s c) (takes-turns s c (world s c) (picked s c).last (picked s c).pick);
}

pub next_last : (s : Start) (c : ℕ) → (world s (suc c)).last ≡ (picked s c).last
next_last s c = rw (next_takes s c) (takes-last s c (world s c) (picked s c).last (picked s c).pick)

-- the turn that is e turns below the newest
abbrev pub turn_at : Start → ℕ → ℕ → Took
turn_at s c e = get_or (world s c).turns e Idle

deeper : (s : Start) (m e : ℕ) → turn_at s (suc (m + e)) e ≡ newest (world s (suc m))
deeper s m zero = rw add-zero refl
deeper s m (suc e) = rw (add-suc, (nexts s (suc (m + e))).turns) (deeper s m e)

pub ages : (s : Start) (c : ℕ) → length (world s c).turns ≡ c
unfolding world recent
ages s zero = refl
ages s (suc c) = ap length (nexts s c).turns ∙ ap suc (ages s c)

pub turn-older : (s : Start) (c e : ℕ) → turn_at s (suc c) (suc e) ≡ turn_at s c e
turn-older s c e = rw (nexts s c).turns refl

-- the turn that is e turns below the newest takes the world of its cycle, c - 1 - e, to the next
-- one; before cycle 0 no turn changes the world
pub lagging : (s : Start) (c e : ℕ) →
    Turned s (c - suc e) (world s (c - suc e)) (turn_at s c e) (world s (suc c - suc e))
lagging s c e = go (cases_lt e c)
  where
    go : (e < c) ⊎ (c ≤ e) →
        Turned s (c - suc e) (world s (c - suc e)) (turn_at s c e) (world s (suc c - suc e))
    go (inl l) =
        let m : ℕ = c - suc e in
        let now : suc c - suc e ≡ suc m = omega arith in
        let here : suc (m + e) ≡ c = omega arith in
        let turn : turn_at s c e ≡ newest (world s (suc m)) =
        subst (λ (n : ℕ). turn_at s n e ≡ newest (world s (suc m))) here (deeper s m e) in
        rw (now, turn) (nexts s m).turned
    go (inr g) =
        let now : suc c - suc e ≡ c - suc e = omega arith in
        let none : turn_at s c e ≡ Idle = get_or_past (world s c).turns e Idle (rw (ages s c) g) in
        rw (now, none) (record { threads = refl; words = refl; registers = refl; latches = refl })

-- a turn before cycle 0 is a bubble
pub real : (s : Start) (c e : ℕ) → (e < c) ⊎ (turn_at s c e ≡ Idle)
real s c e = go (cases_lt e c)
  where
    go : (e < c) ⊎ (c ≤ e) → (e < c) ⊎ (turn_at s c e ≡ Idle)
    go (inl l) = inl l
    go (inr g) = inr (get_or_past (world s c).turns e Idle (rw (ages s c) g))

-- the same, to the world of c - e
pub behind : (s : Start) (c e : ℕ) →
    Turned s (c - suc e) (world s (c - suc e)) (turn_at s c e) (world s (c - e))
behind s c e =
    let same : suc c - suc e ≡ c - e = omega arith in
    subst (λ (n : ℕ). Turned s (c - suc e) (world s (c - suc e)) (turn_at s c e) (world s n)) same
    (lagging s c e)
