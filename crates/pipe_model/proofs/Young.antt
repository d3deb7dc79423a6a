-- The stages D and F against the world, and the pcs to fetch next.
use Rattle.std.proofs.Common.{◌≡◌, ℕ, suc, ◌-◌, ◌<◌, ◌≤◌, ◌⊎◌, inl, inr, Bool, true, false}
use Rattle.std.proofs.Common.{List, get_or, set, length, refl, ap, ap₂, sym, ◌∙◌, subst, arith}
use Rattle.std.specs.Prelude.{if◌then◌else◌, Option, ◌==◌, nat_le}
use Rattle.std.proofs.lemmas.List.{get_or-set_same, get_or-set_other, length-set}
use Rattle.std.proofs.lemmas.Bool.Decides.{nat_tests}
use Rattle.rv_decode.specs.Table.{ins}
use Rattle.slot_scheduler.specs.declared.picking.Pick.{Pick}
use Rattle.slot_scheduler.specs.declared.picking.Pick.TheVariants as chosen
use Rattle.timer_unit.specs.Time.{time, is_due, no_timer}
use Rattle.core_model.specs.Outcomes.{plus}
use Rattle.core_model.specs.Issue.{source_1, source_2}
use Rattle.core_model.specs.Memory.{code_at}
use Rattle.core_model.specs.World.{Start, World, Took, thread_of}
use Rattle.core_model.specs.World.Took.{Idle, Lost, Ran}
use Rattle.core_model.proofs.Turns.{Turned}
use Rattle.pipe_model.specs.declared.stage_registers.Held.TheVariants.{Flushed, Issue}
use Rattle.pipe_model.specs.declared.stage_registers.Decoded.{Decoded}
use Rattle.pipe_model.specs.declared.stage_registers.Redirect.{Redirect}
use Rattle.pipe_model.specs.Forwarding.{from_m, operand}
use Rattle.pipe_model.specs.Stages.{flushes_f, next_after_redirect}
use Rattle.pipe_model.specs.Stages.{decode_stage, fetch_stage, next_after_fetch}
use Rattle.pipe_model.specs.Relation.{issues, pc_after_issue, pick_in, in_execute}
use Rattle.pipe_model.specs.Relation.{in_memory, in_decode, decoded_in, in_fetch}
use Rattle.pipe_model.specs.Relation.{fetched_in, fetches, next_of, bank_in, control_in}
use Rattle.pipe_model.proofs.Moved.{equals, unequal}
use Rattle.pipe_model.proofs.Late.{redirect_in, timer-is, row-is}
use Rattle.pipe_model.proofs.Front.{Spared, Killed}

-- the effect of the turn of c - 2 on thread k, and k's registers with the value in M
pub record Fate (s : Start) (c : ℕ) (w3 w2 w1 : World) (t2 t1 : Took) (pcs : List ℕ)
    (k : ℕ) : Type 0 where
  pub fate : Spared s c (c - 2) w2 w1 t1 k pcs ⊎ Killed s c (c - 2) w2 w1 t1 k pcs
  pub regs : (thread_of w2 k).ready < c →
      (thread_of w2 k).regs ≡ from_m k (in_memory t2) (thread_of w3 k).regs

module _ (s : Start) (c : ℕ) (w3 w2 w1 w0 : World) (t2 t1 t0 : Took) (pcs : List ℕ)
    (count3 : length w3.threads ≡ 8)
    (fates : (k : ℕ) → k < 8 → Fate s c w3 w2 w1 t2 t1 pcs k)
    (turned : Turned s (c - 1) w1 t0 w0)
    (real : (0 < c) ⊎ (t0 ≡ Idle)) where
  abbrev pub r : Option Redirect
  r = redirect_in s (c - 2) w2 t1

  abbrev pub bank : List (List ℕ)
  bank = bank_in w3

  -- D: a turn that continues
  decoded-is : (k : ℕ) → k < 8 → Spared s c (c - 2) w2 w1 t1 k pcs →
      (thread_of w2 k).regs ≡ from_m k (in_memory t2) (thread_of w3 k).regs →
      (let x = fetched_in s w2 t1 k in
      let d : Decoded = record {
        pc = x.pc;
        word = x.word;
        expired = is_due (get_or (control_in w1).timers k no_timer).armed (time s.period (c - 1));
        a = operand bank (in_memory t2) (in_execute s (c - 2) w2 t1) k (source_1 (ins x.word));
        b = operand bank (in_memory t2) (in_execute s (c - 2) w2 t1) k (source_2 (ins x.word));
      } in d)
      ≡ decoded_in s (c - 1) (thread_of w1 k)
  decoded-is k h f g = rw (f.pc, f.regs, g, row-is w3 k count3 h, timer-is w1 k) refl

  not_due : (a b : ℕ) (n : Bool) → nat_le a b ≡ n → a ≤ b → n ≡ true
  not_due a b n e h = sym e ∙ grind (arith, nat_tests)

  due : (a b : ℕ) (n : Bool) → nat_le a b ≡ n → b < a → n ≡ false
  due a b n e h = sym e ∙ grind (arith, nat_tests)

  pub decode-is : (t : Took) → Turned s (c - 1) w1 t w0 → (0 < c) ⊎ (t ≡ Idle) →
      decode_stage bank (in_memory t2) (in_execute s (c - 2) w2 t1) (control_in w1).timers r
      (time s.period (c - 1)) (in_fetch s c w2 t1 (pick_in t)) ≡ in_decode s (c - 1) w1 t
  unfolding decode_stage
  decode-is Idle t h = refl
  decode-is (Lost k) t (inr h) = cc
  decode-is (Lost k) t (inl h) = go (fates k t.below).fate
    where
      go : Spared s c (c - 2) w2 w1 t1 k pcs ⊎ Killed s c (c - 2) w2 w1 t1 k pcs →
          decode_stage bank (in_memory t2) (in_execute s (c - 2) w2 t1) (control_in w1).timers r
          (time s.period (c - 1)) (if nat_le c (thread_of w2 k).ready then Flushed k
          else Issue k (fetched_in s w2 t1 k)) ≡ Flushed k
      go (inl f) =
          let e : nat_le c (thread_of w1 k).ready ≡ true =
          not_due c (thread_of w1 k).ready _ refl (let l = t.late in omega arith) in
          rw (← f.late, e) refl
      go (inr f) =
          let e : nat_le c (thread_of w2 k).ready ≡ false =
          due c (thread_of w2 k).ready _ refl f.first in rw (e, f.one) refl
  decode-is (Ran k pc word effect) t (inr h) = cc
  decode-is (Ran k pc word effect) t (inl h) = go (fates k t.below).fate
    where
      go : Spared s c (c - 2) w2 w1 t1 k pcs ⊎ Killed s c (c - 2) w2 w1 t1 k pcs →
          decode_stage bank (in_memory t2) (in_execute s (c - 2) w2 t1) (control_in w1).timers r
          (time s.period (c - 1)) (if nat_le c (thread_of w2 k).ready then Flushed k
          else Issue k (fetched_in s w2 t1 k)) ≡ Issue k (decoded_in s (c - 1) (thread_of w1 k))
      go (inl f) =
          let l = t.ready in
          let e : nat_le c (thread_of w2 k).ready ≡ false =
          sym f.late ∙ due c (thread_of w1 k).ready _ refl (omega arith) in
          let below : (thread_of w2 k).ready < c = grind (arith, nat_tests) in
          rw (e, f.one)
          (ap (λ (d : Decoded). Issue k d) (decoded-is k t.below f ((fates k t.below).regs below)))
      go (inr f) = let l = t.ready in let m = f.late in absurd (omega arith)

  -- a thread's turn in the register after F continues exactly if it is an issue
  spared-fetches : (k : ℕ) (t : Took) → Spared s c (c - 2) w2 w1 t1 k pcs →
      Turned s (c - 1) w1 t w0 → (0 < c) ⊎ (t ≡ Idle) →
      fetches k (in_fetch s c w2 t1 (pick_in t)) ≡ issues k t
  spared-fetches k Idle f t h = refl
  spared-fetches k (Lost j) f t (inr h) = cc
  spared-fetches k (Lost j) f t (inl h) = go (j == k) refl (nat_le c (thread_of w2 j).ready) refl
    where
      go : (b : Bool) → (j == k) ≡ b → (n : Bool) → nat_le c (thread_of w2 j).ready ≡ n →
          fetches k (if n then Flushed j else Issue j (fetched_in s w2 t1 j)) ≡ false
      go b e true n = refl
      go false e false n = e
      go true e false n =
          let P : ℕ → Type 0 = λ x. nat_le c (thread_of w1 x).ready ≡ true in
          let l : nat_le c (thread_of w1 j).ready ≡ true =
          not_due c (thread_of w1 j).ready _ refl (let l = t.late in omega arith) in
          let m : nat_le c (thread_of w1 k).ready ≡ true = subst P (equals j k e) l in
          let Q : ℕ → Type 0 = λ x. nat_le c (thread_of w2 x).ready ≡ false in
          let g : nat_le c (thread_of w2 k).ready ≡ false = subst Q (equals j k e) n in
          let x = f.late in cc
  spared-fetches k (Ran j pc word effect) f t (inr h) = cc
  spared-fetches k (Ran j pc word effect) f t (inl h) =
      go (j == k) refl (nat_le c (thread_of w2 j).ready) refl
    where
      go : (b : Bool) → (j == k) ≡ b → (n : Bool) → nat_le c (thread_of w2 j).ready ≡ n →
          fetches k (if n then Flushed j else Issue j (fetched_in s w2 t1 j)) ≡ (j == k)
      go b e false n = refl
      go false e true n = sym e
      go true e true n =
          let P : ℕ → Type 0 = λ x. nat_le c (thread_of w1 x).ready ≡ false in
          let l : nat_le c (thread_of w1 j).ready ≡ false =
          due c (thread_of w1 j).ready _ refl (let l = t.ready in omega arith) in
          let m : nat_le c (thread_of w1 k).ready ≡ false = subst P (equals j k e) l in
          let Q : ℕ → Type 0 = λ x. nat_le c (thread_of w2 x).ready ≡ true in
          let g : nat_le c (thread_of w2 k).ready ≡ true = subst Q (equals j k e) n in
          let x = f.late in cc

  killed-issues : (k : ℕ) (t : Took) → c ≤ (thread_of w1 k).ready → Turned s (c - 1) w1 t w0 →
      (0 < c) ⊎ (t ≡ Idle) → issues k t ≡ false
  killed-issues k Idle f t h = refl
  killed-issues k (Lost j) f t h = refl
  killed-issues k (Ran j pc word effect) f t (inr h) = cc
  killed-issues k (Ran j pc word effect) f t (inl h) = go (j == k) refl
    where
      go : (b : Bool) → (j == k) ≡ b → b ≡ false
      go false e = refl
      go true e =
          let P : ℕ → Type 0 = λ x. (thread_of w1 x).ready ≤ c - 1 in
          let l : (thread_of w1 k).ready ≤ c - 1 = subst P (equals j k e) t.ready in
          absurd (omega arith)

  -- after the redirect: a turn is flushed in F exactly if its first ready cycle is above c; the
  -- next pc
  pub record Ahead (k : ℕ) : Type 0 where
    pub two : flushes_f k r ≡ nat_le (suc c) (thread_of w1 k).ready
    pub next : get_or (next_after_redirect r pcs) k 0
        ≡ pc_after_issue (issues k t0) (thread_of w1 k).pc
    pub count : length (next_after_redirect r pcs) ≡ length pcs

  pub ahead : (k : ℕ) → k < 8 →
      get_or pcs k 0 ≡ next_of w2 t1 (in_fetch s c w2 t1 (pick_in t0)) k → Ahead k
  ahead k h n = go (fates k h).fate
    where
      go : Spared s c (c - 2) w2 w1 t1 k pcs ⊎ Killed s c (c - 2) w2 w1 t1 k pcs → Ahead k
      go (inl f) = record {
        two =
            f.two ∙ sym (due (suc c) (thread_of w1 k).ready _ refl (let l = f.soon in omega arith));
        next =
            f.next ∙ n ∙ ap₂ (λ (b : Bool) (pc : ℕ). pc_after_issue b pc)
            (spared-fetches k t0 f turned real) (sym f.pc);
        count = f.count;
      }
      go (inr f) = record {
        two = f.two;
        next =
            f.next ∙ ap (λ (b : Bool). pc_after_issue b (thread_of w1 k).pc)
            (sym (killed-issues k t0 f.late turned real));
        count = f.count;
      }

  -- F
  pub fetch-is : (o : Pick) → ((k : ℕ) → o ≡ chosen.Issue k → Ahead k) →
      fetch_stage s.size s.i_words r (next_after_redirect r pcs) o ≡ in_fetch s (suc c) w1 t0 o
  unfolding fetch_stage
  fetch-is chosen.Bubble h = refl
  fetch-is (chosen.Issue k) h = let a = h k refl in rw (a.two, a.next) refl

  pub advanced-count : (o : Pick) → length (next_after_redirect r pcs) ≡ 8 →
      length (next_after_fetch r o (next_after_redirect r pcs)) ≡ 8
  unfolding next_after_fetch
  advanced-count chosen.Bubble h = h
  advanced-count (chosen.Issue k) h = go (flushes_f k r)
    where
      go : (b : Bool) →
          length (if b then next_after_redirect r pcs
          else set (next_after_redirect r pcs) k
          (plus (get_or (next_after_redirect r pcs) k 0) 4)) ≡ 8
      go true = h
      go false = length-set (next_after_redirect r pcs) k _ ∙ h

  pub advanced-is : (o : Pick) (k : ℕ) → k < 8 → length (next_after_redirect r pcs) ≡ 8 → Ahead k →
      get_or (next_after_fetch r o (next_after_redirect r pcs)) k 0
      ≡ next_of w1 t0 (fetch_stage s.size s.i_words r (next_after_redirect r pcs) o) k
  unfolding next_after_fetch fetch_stage
  advanced-is chosen.Bubble k h l a = a.next
  advanced-is (chosen.Issue j) k h l a = go (flushes_f j r) (j == k) refl
    where
      next : List ℕ
      next = next_after_redirect r pcs

      pc : ℕ
      pc = get_or next j 0

      go : (b m : Bool) → (j == k) ≡ m →
          get_or (if b then next else set next j (plus pc 4)) k 0 ≡ next_of w1 t0 (if b
          then Flushed j
          else Issue j (record { pc = pc; word = code_at s.size s.i_words pc })) k
      go true m e = a.next
      go false false e = rw e (get_or-set_other next j k (plus pc 4) 0 (unequal j k e) ∙ a.next)
      go false true e =
          let P : ℕ → Type 0 = λ x. get_or (set next x (plus (get_or next x 0) 4)) k 0
          ≡ plus (pc_after_issue (issues k t0) (thread_of w1 k).pc) 4 in
          rw e (subst P (sym (equals j k e)) (get_or-set_same next k (plus (get_or next k 0) 4) 0
          (rw l h) ∙ ap (λ (x : ℕ). plus x 4) a.next))
