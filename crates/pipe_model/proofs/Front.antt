-- The effect of the turn of c - 2 on the younger turns of its thread.
use Rattle.std.proofs.Common.{◌≡◌, ℕ, suc, ◌+◌, ◌<◌, ◌≤◌, ◌⊎◌, inl, inr, Bool, true, false}
use Rattle.std.proofs.Common.{List, get_or, length, Some, None, refl, ap, sym, ◌∙◌, subst, arith}
use Rattle.std.specs.Prelude.{if◌then◌else◌, Option, ◌==◌, nat_le}
use Rattle.std.proofs.lemmas.List.{get_or-set_same, get_or-set_other, length-set}
use Rattle.std.proofs.lemmas.Bool.Decides.{nat_tests}
use Rattle.rv_decode.specs.Table.{ins}
use Rattle.rv_exec.specs.declared.outcome.Effect.{Effect}
use Rattle.rv_exec.specs.declared.outcome.Effect.TheVariants.{Nothing, Reg, Store, Csr, Trap, Wait}
use Rattle.core_model.specs.Thread.{Thread, Execution, fresh, regs_after, with_late_value}
use Rattle.core_model.specs.Outcomes.{plus}
use Rattle.core_model.specs.Issue.{issue, effect_of, late_rd, value_in}
use Rattle.core_model.specs.World.{Start, World, Took, thread_of, issue_of, contents}
use Rattle.core_model.specs.World.Took.{Idle, Lost, Ran}
use Rattle.core_model.proofs.Turns.{Does, Turned}
use Rattle.core_model.proofs.Pace.{Paced, is_csr, filled-csr}
use Rattle.pipe_model.specs.declared.stage_registers.Redirect.{Redirect}
use Rattle.pipe_model.specs.declared.stage_registers.Flush.{Flush}
use Rattle.pipe_model.specs.declared.stage_registers.Flush.TheVariants.{Decode, DecodeAndFetch}
use Rattle.pipe_model.specs.Forwarding.{forward, from_e, from_m}
use Rattle.pipe_model.specs.Stages.{flushes_d, includes_fetch}
use Rattle.pipe_model.specs.Stages.{flushes_f, flush_of, next_after_redirect, redirect_of}
use Rattle.pipe_model.specs.Relation.{issues, pc_after_issue, execution_in, in_execute, in_memory}
use Rattle.pipe_model.proofs.Moved.{did-pace, unequal, equals}
use Rattle.pipe_model.proofs.Late.{redirect_in}

-- every effect but that of a CSR instruction is forwarded
forwards : (e : Option Effect) (regs : List ℕ) → is_csr e ≡ false →
    regs_after e regs ≡ forward e regs
forwards None regs h = refl
forwards (Some Nothing) regs h = refl
forwards (Some (Reg rd value)) regs h = refl
forwards (Some (Store x y z)) regs h = refl
forwards (Some (Csr n x y z)) regs h = cc
forwards (Some (Trap x y)) regs h = refl
forwards (Some Wait) regs h = refl

-- the thread of an issue, after it
after-is : (s : Start) (n : ℕ) (w after : World) (k pc word : ℕ) (effect : Option Effect) →
    length w.threads ≡ 8 → Does s n w after k pc word effect →
    thread_of after k ≡ (issue_of s n w k).thread
after-is s n w after k pc word effect l t =
    ap (λ (xs : List Thread). get_or xs k (fresh 0)) t.threads
    ∙ get_or-set_same w.threads k (issue_of s n w k).thread (fresh 0) (rw l t.below)

-- a turn that didn't flush a later one has its register value in the register after M
pub forwarded-m : (s : Start) (n : ℕ) (w after : World) (took : Took) (k : ℕ) →
    length w.threads ≡ 8 → Turned s n w took after →
    ((issues k took ≡ true) → (thread_of after k).ready ≤ n + 2) →
    (thread_of after k).regs ≡ from_m k (in_memory took) (thread_of w k).regs
unfolding issue effect_of
forwarded-m s n w after Idle k l t h =
    ap (λ (xs : List Thread). (get_or xs k (fresh 0)).regs) t.threads
forwarded-m s n w after (Lost j) k l t h =
    ap (λ (xs : List Thread). (get_or xs k (fresh 0)).regs) t.same.threads
forwarded-m s n w after (Ran j pc word effect) k l t h = go (j == k) refl h
  where
    d : Execution
    d = execution_in s n w j

    o : Option ℕ
    o = late_rd (ins d.word)

    v : ℕ
    v = value_in (contents s n w j) (thread_of w j).regs d

    short : n + d.lag ≤ n + 2 → Paced (thread_of w j).pc o d → is_csr d.effect ≡ false
    short h (inl p) = absurd (omega arith)
    short h (inr p) = p.1

    P : ℕ → Type 0
    P x =
        ((thread_of after x).ready ≤ n + 2) →
        (thread_of after x).regs ≡ forward effect (thread_of w x).regs

    same : P j
    same =
        λ h.
        let e : thread_of after j ≡ (issue_of s n w j).thread =
        after-is s n w after j pc word effect l t in
        let c : is_csr effect ≡ false =
        rw (t.effect_is, filled-csr o v d.effect) (short (rw e at h) (did-pace s n w j).paced) in
        ap (λ (x : Thread). x.regs) e
        ∙ ap (λ (y : Option Effect). regs_after y (thread_of w j).regs) (sym t.effect_is)
        ∙ forwards effect (thread_of w j).regs c

    go : (b : Bool) → (j == k) ≡ b → ((b ≡ true) → (thread_of after k).ready ≤ n + 2) →
        (thread_of after k).regs
        ≡ (if b then forward effect (thread_of w k).regs else (thread_of w k).regs)
    go false e h =
        ap (λ (x : Thread). x.regs) (ap (λ (xs : List Thread). get_or xs k (fresh 0)) t.threads
        ∙ get_or-set_other w.threads j k (issue_of s n w j).thread (fresh 0) (unequal j k e))
    go true e h = subst P (equals j k e) same (h refl)

-- the turn of n = c - 2 flushes none of the thread's younger turns
pub record Spared (s : Start) (c n : ℕ) (w after : World) (took : Took) (k : ℕ)
    (pcs : List ℕ) : Type 0 where
  pub one : flushes_d k (redirect_in s n w took) ≡ false
  pub two : flushes_f k (redirect_in s n w took) ≡ false
  pub late : nat_le c (thread_of after k).ready ≡ nat_le c (thread_of w k).ready
  pub soon : (thread_of after k).ready ≤ c
  pub pc : (thread_of after k).pc ≡ pc_after_issue (issues k took) (thread_of w k).pc
  pub regs : (thread_of after k).regs ≡ from_e k (in_execute s n w took) (thread_of w k).regs
  pub next : get_or (next_after_redirect (redirect_in s n w took) pcs) k 0 ≡ get_or pcs k 0
  pub count : length (next_after_redirect (redirect_in s n w took) pcs) ≡ length pcs

-- it flushes one or two
pub record Killed (s : Start) (c n : ℕ) (w after : World) (took : Took) (k : ℕ)
    (pcs : List ℕ) : Type 0 where
  pub one : flushes_d k (redirect_in s n w took) ≡ true
  pub two : flushes_f k (redirect_in s n w took) ≡ nat_le (suc c) (thread_of after k).ready
  pub first : (thread_of w k).ready < c
  pub late : c ≤ (thread_of after k).ready
  pub next : get_or (next_after_redirect (redirect_in s n w took) pcs) k 0 ≡ (thread_of after k).pc
  pub count : length (next_after_redirect (redirect_in s n w took) pcs) ≡ length pcs

-- a turn that is no issue of the thread
pub elsewhere : (s : Start) (c n : ℕ) (w after : World) (took : Took) (k : ℕ) (pcs : List ℕ) →
    issues k took ≡ false → thread_of after k ≡ thread_of w k → (thread_of w k).ready ≤ c →
    Spared s c n w after took k pcs
unfolding next_after_redirect
elsewhere s c n w after Idle k pcs i e h = record {
  one = refl;
  two = refl;
  late = rw e refl;
  soon = rw e h;
  pc = rw e refl;
  regs = rw e refl;
  next = refl;
  count = refl;
}
elsewhere s c n w after (Lost j) k pcs i e h = record {
  one = refl;
  two = refl;
  late = rw e refl;
  soon = rw e h;
  pc = rw e refl;
  regs = rw e refl;
  next = refl;
  count = refl;
}
elsewhere s c n w after (Ran j pc word effect) k pcs i e h = record {
  one = d-stays (d.lag == 1);
  two = f-stays (d.lag == 1);
  late = rw e refl;
  soon = rw e h;
  pc = rw (e, i) refl;
  regs = rw (e, i) refl;
  next = keeps (d.lag == 1);
  count = counts (d.lag == 1);
}
  where
    d : Execution
    d = execution_in s n w j

    r : Redirect
    r = record { thread = j; pc = d.pc; flush = flush_of d }

    d-stays : (b : Bool) → flushes_d k (if b then None else Some r) ≡ false
    d-stays true = refl
    d-stays false = rw i refl

    f-stays : (b : Bool) → flushes_f k (if b then None else Some r) ≡ false
    f-stays true = refl
    f-stays false = rw i refl

    keeps : (b : Bool) →
        get_or (next_after_redirect (if b then None else Some r) pcs) k 0 ≡ get_or pcs k 0
    keeps true = refl
    keeps false = get_or-set_other pcs j k d.pc 0 (unequal j k i)

    counts : (b : Bool) → length (next_after_redirect (if b then None else Some r) pcs) ≡ length pcs
    counts true = refl
    counts false = length-set pcs j d.pc

-- an issue of the thread
pub here : (s : Start) (c n : ℕ) (w after : World) (k pc word : ℕ)
    (effect : Option Effect) (pcs : List ℕ) → length w.threads ≡ 8 → length pcs ≡ 8 →
    c ≡ n + 2 → Does s n w after k pc word effect →
    Spared s c n w after (Ran k pc word effect) k pcs
    ⊎ Killed s c n w after (Ran k pc word effect) k pcs
unfolding next_after_redirect issue effect_of
here s c n w after k pc word effect pcs l m far t = go (did-pace s n w k).paced
  where
    d : Execution
    d = execution_in s n w k

    o : Option ℕ
    o = late_rd (ins d.word)

    v : ℕ
    v = value_in (contents s n w k) (thread_of w k).regs d

    e : thread_of after k ≡ (issue_of s n w k).thread
    e = after-is s n w after k pc word effect l t

    ready : (thread_of after k).ready ≡ n + d.lag
    ready = ap (λ (x : Thread). x.ready) e

    pc' : (thread_of after k).pc ≡ d.pc
    pc' = ap (λ (x : Thread). x.pc) e

    self : (k == k) ≡ true
    self = grind (arith, nat_tests)

    before : (thread_of w k).ready ≤ n
    before = t.ready

    below : k < length pcs
    below = rw m t.below

    one : d.lag ≡ 1 → redirect_of k d ≡ None
    one h = rw h refl

    killed : (way : Flush) →
        redirect_of k d ≡ Some (record { thread = k; pc = d.pc; flush = way }) →
        2 ≤ d.lag → includes_fetch way ≡ nat_le (suc c) (n + d.lag) →
        Killed s c n w after (Ran k pc word effect) k pcs
    killed way h g reach = record {
      one = rw (h, self) refl;
      two = rw (h, self, ready) reach;
      first = omega arith;
      late = omega (arith, ready);
      next = rw h (get_or-set_same pcs k d.pc 0 below ∙ sym pc');
      count = rw h (length-set pcs k d.pc);
    }

    spared : d.lag ≡ 1 → d.pc ≡ plus (thread_of w k).pc 4 → is_csr d.effect ≡ false → o ≡ None →
        Spared s c n w after (Ran k pc word effect) k pcs
    spared h p x y = record {
      one = rw (one h) refl;
      two = rw (one h) refl;
      late = rw (ready, h, far) (grind (arith, nat_tests));
      soon = omega (arith, ready);
      pc = rw self (pc' ∙ p);
      regs =
          rw self (ap (λ (z : Thread). z.regs) e
          ∙ ap (λ (z : Option ℕ). regs_after (with_late_value z v d.effect) (thread_of w k).regs) y
          ∙ forwards d.effect (thread_of w k).regs x);
      next = rw (one h) refl;
      count = rw (one h) refl;
    }

    go : Paced (thread_of w k).pc o d → Spared s c n w after (Ran k pc word effect) k pcs
        ⊎ Killed s c n w after (Ran k pc word effect) k pcs
    go (inl h) =
        inr
        (killed DecodeAndFetch (rw h refl) (omega arith) (rw (h, far) (grind (arith, nat_tests))))
    go (inr (p, x, inl h)) =
        inr (killed Decode (rw h refl) (omega arith) (rw (h, far) (grind (arith, nat_tests))))
    go (inr (p, x, inr (h, y))) = inl (spared h p x y)
