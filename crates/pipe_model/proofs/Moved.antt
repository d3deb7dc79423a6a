-- The effect of a turn on one thread.
use Rattle.std.proofs.Common.{◌≡◌, ◌≢◌, ℕ, zero, suc, ◌+◌, ◌-◌, ◌<◌, ◌≤◌, inl, inr, ◌⊎◌, Bool}
use Rattle.std.proofs.Common.{true, false, List, get_or, length, refl, ap, ◌∙◌, subst, arith}
use Rattle.std.specs.Prelude.{Option, ◌==◌}
use Rattle.std.proofs.lemmas.List.{get_or-set_same, get_or-set_other, length-set}
use Rattle.std.proofs.lemmas.Bool.{cases_lt}
use Rattle.std.proofs.lemmas.Bool.Decides.{nat_tests}
use Rattle.core_model.specs.Thread.{Thread, Execution, fresh}
use Rattle.core_model.specs.Issue.{execute_word, issue}
use Rattle.core_model.specs.World.{Start, World, Took, world, thread_of, issue_of, recent}
use Rattle.core_model.specs.World.Took.{Idle, Lost, Ran}
use Rattle.core_model.proofs.Turns.{Turned, nexts}
use Rattle.core_model.proofs.Pace.{Pace, act-pace, Paced}
use Rattle.pipe_model.specs.Relation.{issues, execution_in, Begins}

pub equals : (a b : ℕ) → (a == b) ≡ true → a ≡ b
equals a b h = grind (arith, nat_tests)

pub unequal : (a b : ℕ) → (a == b) ≡ false → b ≢ a
unequal a b h = λ e. grind (arith, nat_tests)

-- one thread over one turn: it issues, or it stays
pub record Moves (s : Start) (n : ℕ) (w after : World) (k : ℕ) : Type 0 where
  pub ready : (thread_of w k).ready ≤ n
  pub thread : thread_of after k ≡ (issue_of s n w k).thread

pub moved : (s : Start) (n : ℕ) (w after : World) (took : Took) (k : ℕ) →
    length w.threads ≡ 8 → Turned s n w took after →
    ((issues k took ≡ true) × Moves s n w after k)
    ⊎ ((issues k took ≡ false) × (thread_of after k ≡ thread_of w k))
moved s n w after Idle k l t =
    inr (refl, ap (λ (xs : List Thread). get_or xs k (fresh 0)) t.threads)
moved s n w after (Lost j) k l t =
    inr (refl, ap (λ (xs : List Thread). get_or xs k (fresh 0)) t.same.threads)
moved s n w after (Ran j pc word effect) k l t = go (j == k) refl
  where
    go : (b : Bool) → (j == k) ≡ b →
        ((b ≡ true) × Moves s n w after k) ⊎ ((b ≡ false) × (thread_of after k ≡ thread_of w k))
    go false e = inr (
      refl,
      ap (λ (xs : List Thread). get_or xs k (fresh 0)) t.threads
          ∙ get_or-set_other w.threads j k (issue_of s n w j).thread (fresh 0) (unequal j k e),
    )
    go true e =
        let P : ℕ → Type 0 = λ x. Moves s n w after x in
        inl (
          refl,
          subst P (equals j k e) (record {
            ready = t.ready;
            thread =
                ap (λ (xs : List Thread). get_or xs j (fresh 0)) t.threads
                ∙ get_or-set_same w.threads j (issue_of s n w j).thread (fresh 0) (rw l t.below);
          }),
        )

-- eight threads
eight_after : (s : Start) (n : ℕ) (w after : World) (took : Took) → Turned s n w took after →
    length after.threads ≡ length w.threads
eight_after s n w after Idle t = ap length t.threads
eight_after s n w after (Lost j) t = ap length t.same.threads
eight_after s n w after (Ran j pc word effect) t =
    ap length t.threads ∙ length-set w.threads j (issue_of s n w j).thread

pub eight : (s : Start) (c : ℕ) → Begins s → length (world s c).threads ≡ 8
unfolding world recent
eight s zero b = b.eight
eight s (suc c) b = eight_after s c (world s c) (world s (suc c)) _ (nexts s c).turned ∙ eight s c b

pub did-pace : (s : Start) (n : ℕ) (w : World) (k : ℕ) →
    Pace (thread_of w k).pc (execution_in s n w k)
unfolding execute_word
did-pace s n w k = act-pace _ (thread_of w k).pc _ _ _ _ _

lag-three : (d : Execution) (pc : ℕ) (o : Option ℕ) → Paced pc o d → d.lag ≤ 3
lag-three d pc o p = grind (arith, nat_tests)

-- the parts of an issue
pub record Parts (s : Start) (n : ℕ) (w : World) (k : ℕ) : Type 0 where
  pub pc : (issue_of s n w k).thread.pc ≡ (execution_in s n w k).pc
  pub ready : (issue_of s n w k).thread.ready ≡ n + (execution_in s n w k).lag
  pub own : (issue_of s n w k).thread.own ≡ (execution_in s n w k).own
  pub word : (issue_of s n w k).word ≡ (execution_in s n w k).word

pub parts : (s : Start) (n : ℕ) (w : World) (k : ℕ) → Parts s n w k
unfolding issue
parts s n w k = record { pc = refl; ready = refl; own = refl; word = refl }

-- a first ready cycle is at most two cycles ahead
pub soon : (s : Start) (c k : ℕ) → Begins s → (thread_of (world s c) k).ready ≤ c + 2
unfolding world recent
soon s zero k b = let e : (thread_of (world s zero) k).ready ≡ 0 = b.ready k in omega arith
soon s (suc c) k b =
    go _ (soon s c k b)
    (moved s c (world s c) (world s (suc c)) _ k (eight s c b) (nexts s c).turned)
  where
    go : (took : Took) → (thread_of (world s c) k).ready ≤ c + 2 →
        ((issues k took ≡ true) × Moves s c (world s c) (world s (suc c)) k)
        ⊎ ((issues k took ≡ false) × (thread_of (world s (suc c)) k ≡ thread_of (world s c) k)) →
        (thread_of (world s (suc c)) k).ready ≤ suc c + 2
    go took h (inl m) =
        let l : (execution_in s c (world s c) k).lag ≤ 3 =
        lag-three (execution_in s c (world s c) k) _ _ (did-pace s c (world s c) k).paced in
        let e : (thread_of (world s (suc c)) k).ready ≡ c + (execution_in s c (world s c) k).lag =
        ap (λ (t : Thread). t.ready) m.1.thread ∙ (parts s c (world s c) k).ready in
        omega arith
    go took h (inr e) =
        let f : (thread_of (world s (suc c)) k).ready ≡ (thread_of (world s c) k).ready =
        ap (λ (t : Thread). t.ready) e.1 in omega arith

pub soon_lagging : (s : Start) (c k : ℕ) → Begins s → (thread_of (world s (c - 2)) k).ready ≤ c
unfolding world recent
soon_lagging s c k b = go (cases_lt c 2)
  where
    first : (thread_of (world s 0) k).ready ≤ 0
    first = let e : (thread_of (world s 0) k).ready ≡ 0 = b.ready k in omega arith

    go : (c < 2) ⊎ (2 ≤ c) → (thread_of (world s (c - 2)) k).ready ≤ c
    go (inl l) = let e : c - 2 ≡ 0 = omega arith in rw e (let z = first in omega arith)
    go (inr l) =
        let h : (thread_of (world s (c - 2)) k).ready ≤ (c - 2) + 2 =
        soon s (c - 2) k b in omega arith
