-- A cycle takes a state that refines cycle c to one that refines c + 1.
use Rattle.std.proofs.Common.{◌≡◌, ℕ, suc, ◌+◌, ◌-◌, ◌<◌, ◌≤◌, ◌⊎◌, inl, inr, Bool, true, false}
use Rattle.std.proofs.Common.{List, get_or, length, refl, ap, ap₂, sym, ◌∙◌, subst, subst₂, arith}
use Rattle.std.specs.Prelude.{if◌then◌else◌, Option, nat_lt}
use Rattle.slot_scheduler.specs.declared.picking.Pick.{Pick}
use Rattle.slot_scheduler.specs.declared.picking.Pick.TheVariants as chosen
use Rattle.slot_scheduler.specs.Picking.{IsPick}
use Rattle.timer_unit.specs.Time.{time}
use Rattle.fp_ports.specs.PluggedPorts.{Row}
use Rattle.core_model.specs.Thread.{Thread, fresh}
use Rattle.core_model.specs.World.{Start, World, Took, world, thread_of, after_pick}
use Rattle.core_model.specs.World.{after_issue, after_no_issue, newest, issue_of, sched_of}
use Rattle.core_model.specs.World.Took.{Idle, Lost, Ran}
use Rattle.core_model.proofs.Picks.{pick-below}
use Rattle.core_model.proofs.Turns.{Turned, behind, real, turn-older, next_takes, next_last, picked}
use Rattle.pipe_model.specs.declared.stage_registers.Held.{Held}
use Rattle.pipe_model.specs.declared.stage_registers.Fetched.{Fetched}
use Rattle.pipe_model.specs.declared.stage_registers.Stored.{Stored}
use Rattle.pipe_model.specs.declared.stage_registers.Redirect.{Redirect}
use Rattle.pipe_model.specs.Stages.{StageRegisters, State, After, Ticked, bank_after}
use Rattle.pipe_model.specs.Stages.{memory_stage, ports_stored, execute_stage}
use Rattle.pipe_model.specs.Stages.{writeback_stage, retired_event, decode_stage}
use Rattle.pipe_model.specs.Stages.{next_after_redirect, next_after_fetch, finish, step}
use Rattle.pipe_model.specs.Relation.{turn_at, in_write, in_memory, in_execute, in_decode}
use Rattle.pipe_model.specs.Relation.{in_fetch, pick_in, issues, next_of, bank_in, control_in}
use Rattle.pipe_model.specs.Relation.{units_of, stage_registers_of, Fronts, HasLatches}
use Rattle.pipe_model.specs.Relation.{PipelineRefines, PortsRefine, Begins, event_in, RefinesNext}
use Rattle.pipe_model.proofs.Moved.{Moves, eight, equals, moved, soon_lagging}
use Rattle.pipe_model.proofs.Late.{writes, stored-is, stores-is}
use Rattle.pipe_model.proofs.Late.{execute_stage-is, redirect_in, after_in}
use Rattle.pipe_model.proofs.Front.{Spared, Killed, elsewhere, here, forwarded-m}
use Rattle.pipe_model.proofs.Young.{Fate, Ahead, decode-is, ahead}
use Rattle.pipe_model.proofs.Young.{fetch-is, advanced-count, advanced-is}
use Rattle.pipe_model.proofs.Ports.{eight_latches, same-ports, ports-is, plugged}

-- the newest turn is the picked thread's
takes-pick : (s : Start) (n : ℕ) (w : World) (last : ℕ) (o : Pick) →
    pick_in (newest (after_pick s n w last o)) ≡ o
takes-pick s n w last chosen.Bubble = refl
takes-pick s n w last (chosen.Issue k) = go (nat_lt n (thread_of w k).ready)
  where
    go : (b : Bool) → pick_in (newest (if b then after_no_issue w last (Lost k)
        else after_issue s n w last k (issue_of s n w k))) ≡ chosen.Issue k
    go true = refl
    go false = refl

picked-is : (s : Start) (c : ℕ) → pick_in (turn_at s (suc c) 0) ≡ (picked s c).pick
picked-is s c = rw (next_takes s c) (takes-pick s c (world s c) (picked s c).last (picked s c).pick)

pub write-is : (t : Took) → writeback_stage (in_memory t) ≡ in_write t
unfolding writeback_stage
write-is Idle = refl
write-is (Lost k) = refl
write-is (Ran k pc word effect) = refl

retired-is : (c : ℕ) (t : Took) → retired_event c (in_memory t) ≡ event_in c t
unfolding retired_event
retired-is c Idle = refl
retired-is c (Lost k) = refl
retired-is c (Ran k pc word effect) = refl

module _ (s : Start) (c : ℕ) (begins : Begins s) where
  abbrev w4 : World
  w4 = world s (c - 4)

  abbrev w3 : World
  w3 = world s (c - 3)

  abbrev w2 : World
  w2 = world s (c - 2)

  abbrev w1 : World
  w1 = world s (c - 1)

  abbrev t0 : Took
  t0 = turn_at s c 0

  abbrev t1 : Took
  t1 = turn_at s c 1

  abbrev t2 : Took
  t2 = turn_at s c 2

  abbrev t3 : Took
  t3 = turn_at s c 3

  fate-at : (pcs : List ℕ) (k : ℕ) (t : Took) → k < 8 → length pcs ≡ 8 → Turned s (c - 2) w2 t w1 →
      (1 < c) ⊎ (t ≡ Idle) → Spared s c (c - 2) w2 w1 t k pcs ⊎ Killed s c (c - 2) w2 w1 t k pcs
  fate-at pcs k Idle h l t r =
      inl (elsewhere s c (c - 2) w2 w1 Idle k pcs refl
      (ap (λ (xs : List Thread). get_or xs k (fresh 0)) t.threads) (soon_lagging s c k begins))
  fate-at pcs k (Lost j) h l t r =
      inl (elsewhere s c (c - 2) w2 w1 (Lost j) k pcs refl
      (ap (λ (xs : List Thread). get_or xs k (fresh 0)) t.same.threads) (soon_lagging s c k begins))
  fate-at pcs k (Ran j pc word effect) h l t (inr r) = cc
  fate-at pcs k (Ran j pc word effect) h l t (inl r) =
      go (moved s (c - 2) w2 w1 (Ran j pc word effect) k (eight s (c - 2) begins) t)
    where
      go : ((issues k (Ran j pc word effect) ≡ true) × Moves s (c - 2) w2 w1 k)
          ⊎ ((issues k (Ran j pc word effect) ≡ false) × (thread_of w1 k ≡ thread_of w2 k)) →
          Spared s c (c - 2) w2 w1 (Ran j pc word effect) k pcs
          ⊎ Killed s c (c - 2) w2 w1 (Ran j pc word effect) k pcs
      go (inr m) =
          inl (elsewhere s c (c - 2) w2 w1 (Ran j pc word effect) k pcs m.0 m.1
          (soon_lagging s c k begins))
      go (inl m) =
          let P : ℕ → Type 0 = λ x. Spared s c (c - 2) w2 w1 (Ran j pc word effect) x pcs
          ⊎ Killed s c (c - 2) w2 w1 (Ran j pc word effect) x pcs in
          subst P (equals j k m.0)
          (here s c (c - 2) w2 w1 j pc word effect pcs (eight s (c - 2) begins) l (omega arith) t)

  pub fates : (pcs : List ℕ) → length pcs ≡ 8 → (k : ℕ) → k < 8 → Fate s c w3 w2 w1 t2 t1 pcs k
  fates pcs l k h = record {
    fate = fate-at pcs k t1 h l (behind s c 1) (real s c 1);
    regs =
        λ below. forwarded-m s (c - 3) w3 w2 t2 k (eight s (c - 3) begins) (behind s c 2)
        (λ i. go i below (real s c 2));
  }
    where
      go : issues k t2 ≡ true → (thread_of w2 k).ready < c → (2 < c) ⊎ (t2 ≡ Idle) →
          (thread_of w2 k).ready ≤ (c - 3) + 2
      go i below (inl r) = omega arith
      go i below (inr r) = let none : issues k t2 ≡ false = ap (issues k) r in cc

  -- the state after the cycle, by the worlds before it
  abbrev units_after : List (Option Row) → State
  units_after ports = record {
    bank = bank_in w3;
    i_words = s.i_words;
    d_words = w2.d_words;
    control = control_in w1;
    last = (picked s c).last;
    period = s.period;
    size = s.size;
    confined = s.confined;
    permit = s.permit;
    ports = ports;
  }

  units-next : (ports : List (Option Row)) → units_after ports ≡ units_of s (suc c) ports
  units-next ports =
      let a : suc c - 4 ≡ c - 3 = omega arith in
      let b : suc c - 3 ≡ c - 2 = omega arith in
      let d : suc c - 2 ≡ c - 1 = omega arith in
      rw (a, b, d, next_last s c) refl

  abbrev stage_registers_after : List ℕ → StageRegisters
  stage_registers_after pcs = record {
    next = pcs;
    f = in_fetch s (suc c) w1 t0 (picked s c).pick;
    d = in_decode s (c - 1) w1 t0;
    e = in_execute s (c - 2) w2 t1;
    m = in_memory t2;
    w = in_write t3;
  }

  stage_registers-next : (pcs : List ℕ) →
      stage_registers_after pcs ≡ stage_registers_of s (suc c) pcs
  stage_registers-next pcs =
      let b : suc c - 3 ≡ c - 2 = omega arith in
      let d : suc c - 2 ≡ c - 1 = omega arith in
      rw
      (b, d, turn-older s c 0, turn-older s c 1, turn-older s c 2, turn-older s c 3, picked-is s c)
      refl

  module _ (ports : List (Option Row)) (shows : PortsRefine s c ports) (has : HasLatches w3 ports)
      (pcs : List ℕ) (fronts : Fronts s c (stage_registers_of s c pcs).f pcs) where
    abbrev r : Option Redirect
    r = redirect_in s (c - 2) w2 t1

    abbrev pcs' : List ℕ
    pcs' = next_after_fetch r (picked s c).pick (next_after_redirect r pcs)

    abbrev ports' : List (Option Row)
    ports' = ports_stored (in_memory t2) ports

    abbrev w0 : World
    w0 = world s (c - 0)

    three : length w3.threads ≡ 8
    three = eight s (c - 3) begins

    each : (k : ℕ) → k < 8 → Fate s c w3 w2 w1 t2 t1 pcs k
    each = fates pcs fronts.count

    on : (k : ℕ) → k < 8 →
        Ahead s c w3 w2 w1 w0 t2 t1 t0 pcs three each (behind s c 0) (real s c 0) k
    on k h =
        ahead s c w3 w2 w1 w0 t2 t1 t0 pcs three each (behind s c 0) (real s c 0) k h
        (fronts.next k h)

    low : (k : ℕ) → (picked s c).pick ≡ chosen.Issue k → k < 8
    low k e =
        let P : Pick → Type 0 = IsPick in
        subst P e (pick-below (sched_of w2) c (time s.period c) (world s c).last)

    count : length (next_after_redirect r pcs) ≡ 8
    count = (on 0 (omega arith)).count ∙ fronts.count

    abbrev u : State
    u = units_of s c ports

    abbrev p : StageRegisters
    p = stage_registers_of s c pcs

    m-of : (t : Took) → Turned s (c - 3) w3 t w2 → (2 < c) ⊎ (t ≡ Idle) →
        memory_stage u.size u.i_words u.d_words u.ports (c - 3) (in_execute s (c - 3) w3 t)
        ≡ in_memory t
    unfolding memory_stage
    m-of t h (inl l) = stored-is s (c - 3) w3 w2 ports t h (λ k b. shows.words k b l)
    m-of t h (inr e) = rw e refl

    e-is : execute_stage u.size u.confined u.permit (time u.period (c - 2)) u.control p.d
        ≡ after_in s (c - 2) w2 w1 t1
    e-is = execute_stage-is s (c - 2) w2 w1 t1 (behind s c 1)

    has-of : (t : Took) → Turned s (c - 3) w3 t w2 → (2 < c) ⊎ (t ≡ Idle) →
        HasLatches w2 (ports_stored (in_memory t) ports)
    unfolding ports_stored
    has-of t h (inl l) =
        ports-is s (c - 3) w3 w2 ports t (eight_latches s (c - 3) begins) h
        (λ k b is. plugged s c k l _ (shows.there k b) is) has
    has-of t h (inr e) =
        let none : Turned s (c - 3) w3 Idle w2 =
        subst (λ (x : Took). Turned s (c - 3) w3 x w2) e h in
        rw e (λ k b. rw none.latches (has k b))

    abbrev outcome : Ticked
    outcome = record {
      stage_registers = stage_registers_after pcs';
      state = units_after ports';
      event = event_in (c - 4) t3;
    }

    bank-is : bank_after p.m u.bank ≡ bank_in w3
    bank-is = writes s (c - 4) w4 w3 t3 (eight s (c - 4) begins) (behind s c 3)

    finished : finish p u c (picked s c) (in_memory t2) (after_in s (c - 2) w2 w1 t1) ≡ outcome
    finished = λ j. record {
      stage_registers = record {
        next = pcs';
        f =
            fetch-is s c w3 w2 w1 w0 t2 t1 t0 pcs three each (behind s c 0) (real s c 0)
            (picked s c).pick (λ k e. on k (low k e)) j;
        d =
            (ap (λ (bank : List (List ℕ)). decode_stage bank (in_memory t2) (in_execute s
            (c - 2) w2 t1) (control_in w1).timers r (time s.period (c - 1)) p.f) bank-is
            ∙ decode-is s c w3 w2 w1 w0 t2 t1 t0 pcs three each (behind s c 0) (real s c 0) t0
            (behind s c 0) (real s c 0)) j;
        e = in_execute s (c - 2) w2 t1;
        m = in_memory t2;
        w = write-is t3 j;
      };
      state = record {
        bank = bank-is j;
        i_words = s.i_words;
        d_words = stores-is s (c - 3) w3 w2 t2 (behind s c 2) j;
        control = control_in w1;
        last = (picked s c).last;
        period = s.period;
        size = s.size;
        confined = s.confined;
        permit = s.permit;
        ports = ports';
      };
      event = retired-is (c - 4) t3 j;
    }

    stepped : step p u c ≡ outcome
    unfolding step
    stepped =
        ap₂ (λ (m : Held Stored) (e : After). finish p u c (picked s c) m e)
        (m-of t2 (behind s c 2) (real s c 2)) e-is ∙ finished

    fronts-next : Fronts s (suc c) (stage_registers_after pcs').f pcs'
    fronts-next = record {
      count =
          advanced-count s c w3 w2 w1 w0 t2 t1 t0 pcs three each (behind s c 0) (real s c 0)
          (picked s c).pick count;
      next = λ k h. nexts-is k h;
    }
      where
        nexts-is : (k : ℕ) → k < 8 → get_or pcs' k 0
            ≡ next_of (world s (suc c - 2)) (turn_at s (suc c) 1) (stage_registers_after pcs').f k
        nexts-is k h =
            let d : suc c - 2 ≡ c - 1 = omega arith in
            rw (d, turn-older s c 0)
            (advanced-is s c w3 w2 w1 w0 t2 t1 t0 pcs three each
            (behind s c 0) (real s c 0) (picked s c).pick k h count (on k h)
            ∙ ap (λ (f : Held Fetched). next_of w1 t0 f k) (fetch-is s c w3 w2 w1 w0 t2 t1 t0 pcs
            three each (behind s c 0) (real s c 0) (picked s c).pick (λ j e. on j (low j e))))

    ports-next : HasLatches (world s (suc c - 3)) ports'
    ports-next =
        let b : suc c - 3 ≡ c - 2 = omega arith in rw b (has-of t2 (behind s c 2) (real s c 2))

    outcome-kept : RefinesNext s c ports outcome
    outcome-kept = record {
      refines = record {
        stage_registers = stage_registers-next pcs';
        fronts = fronts-next;
        units = units-next ports';
        ports = ports-next;
      };
      event = refl;
      ports = same-ports ports t2;
    }

    step-kept : RefinesNext s c ports (step p u c)
    step-kept =
        let P : Ticked → Type 0 = RefinesNext s c ports in subst P (sym stepped) outcome-kept

-- the whole cycle
pub keeps : (s : Start) (c : ℕ) (p : StageRegisters) (u : State) → Begins s →
    PortsRefine s c u.ports → PipelineRefines s c p u → RefinesNext s c u.ports (step p u c)
keeps s c p u begins shows refines =
    let P : StageRegisters → State → Type 0 = λ x y. RefinesNext s c u.ports (step x y c) in
    let Q : StageRegisters → Type 0 = λ x. Fronts s c x.f p.next in
    subst₂ P (sym refines.stage_registers) (sym refines.units) (step-kept s c begins u.ports shows
    refines.ports p.next (subst Q refines.stage_registers refines.fronts))
