-- The effect of a cycle on one thread, for slots and modes that keep the thread hard and active.
use Rattle.std.proofs.Common.{◌≡◌, ℕ, zero, suc, ◌+◌, ◌%◌, ◌<◌, ◌≤◌, inl, inr, ◌⊎◌, Bool, true}
use Rattle.std.proofs.Common.{false, ◌&&◌, List, [], ◌∷◌, map, get_or, length, length-set, refl}
use Rattle.std.proofs.Common.{ap, ap₂, sym, ◌∙◌, subst, arith, get_or-set_other, get_or-set_same}
use Rattle.std.specs.Prelude.{if◌then◌else◌, ◌==◌, nat_le, nat_lt}
use Rattle.std.proofs.Math.ListN.{get_or-map}
use Rattle.std.proofs.lemmas.List.{length-map}
use Rattle.std.proofs.lemmas.Bool.Decides.{nat_tests}
use Rattle.core_model.specs.Thread.{Thread, Completion, fresh}
use Rattle.core_model.specs.Solo.{has_position}
use Rattle.slot_scheduler.specs.Picking.{Picked, pick}
use Rattle.slot_scheduler.specs.declared.picking.Pick.{Pick}
use Rattle.slot_scheduler.specs.declared.picking.Pick.TheVariants.{Bubble, Issue}
use Rattle.slot_table.specs.Frame.{frame}
use Rattle.timer_unit.specs.Time.{time}
use Rattle.core_model.specs.World.{Start, World, thread_of, sched_of, after_pick, after_turn}
use Rattle.core_model.specs.World.{Recent, recent, issue_of, after_issue, after_no_issue}
use Rattle.core_model.specs.World.Took.{Lost}
use Rattle.isolation.proofs.Picks.{is_this, picks, both}
use Rattle.isolation.proofs.Steps.{Wakes, takes-wakes, equals, unequal, itself}
use Rattle.isolation.proofs.Induction.{one_of, two_of, sync_of}
use Rattle.region_tree.specs.Walk.{IsOwn}
use Rattle.bound_calc.specs.Bound.{positions}
use Rattle.visit_bounds.specs.InSettings.{IsHardBy}
use Rattle.core_model.specs.Traps.{is_trap}
use Rattle.visit_bounds.specs.Visits.{issues_of}

-- the thread issues in the cycle
pub record Issues (s : Start) (i c : ℕ) (w after : World) (o : Pick) : Type 0 where
  pub picked : is_this i o ≡ true
  pub ready : (thread_of w i).ready ≤ c
  pub thread : thread_of after i ≡ (issue_of s c w i).thread
  pub issues : issues_of i after.turns ≡ record {
    cycle = length w.turns;
    pc = (thread_of w i).pc;
    traps = is_trap (issue_of s c w i).effect;
  } ∷ issues_of i w.turns

-- the thread doesn't issue
pub record Rests (i c : ℕ) (w after : World) (o : Pick) : Type 0 where
  pub thread : thread_of after i ≡ thread_of w i
  pub issues : issues_of i after.turns ≡ issues_of i w.turns
  pub early : is_this i o ≡ true → c < (thread_of w i).ready

-- the facts that are the same for all threads
pub record KeepsLengths (w after : World) : Type 0 where
  pub count : length after.threads ≡ length w.threads
  pub age : length after.turns ≡ suc (length w.turns)

own-issues : (s : Start) (i c : ℕ) (w : World) (last : ℕ) → i < 8 →
    length w.threads ≡ 8 → nat_lt c (thread_of w i).ready ≡ false →
    Issues s i c w (after_issue s c w last i (issue_of s c w i)) (Issue i)
own-issues s i c w last h n e = record {
  picked = itself i;
  ready = grind (arith, nat_tests);
  thread = get_or-set_same w.threads i (issue_of s c w i).thread (fresh 0) (omega arith);
  issues = rw (itself i) refl;
}

pub takes-issues : (s : Start) (i c : ℕ) (w : World) (last : ℕ) (o : Pick) →
    i < 8 → length w.threads ≡ 8 →
    Issues s i c w (after_pick s c w last o) o ⊎ Rests i c w (after_pick s c w last o) o
takes-issues s i c w last Bubble h n =
    inr (record { thread = refl; issues = refl; early = λ e. cc })
takes-issues s i c w last (Issue k) h n = go (nat_lt c (thread_of w k).ready) refl (k == i) refl
  where
    W' : Bool → World
    W' b = if b then after_no_issue w last (Lost k) else after_issue s c w last k (issue_of s c w k)

    go : (b : Bool) → nat_lt c (thread_of w k).ready ≡ b → (m : Bool) → (k == i) ≡ m →
        Issues s i c w (W' b) (Issue k) ⊎ Rests i c w (W' b) (Issue k)
    go true e m f = inr (record {
      thread = refl;
      issues = refl;
      early =
          λ is. let l : c < (thread_of w k).ready = grind (arith, nat_tests) in
          subst (λ j. c < (thread_of w j).ready) (equals k i is) l;
    })
    go false e false f = inr (record {
      thread =
          get_or-set_other w.threads k i (issue_of s c w k).thread (fresh 0)
          (λ e'. unequal k i f (sym e'));
      issues = rw f refl;
      early = λ is. cc;
    })
    go false e true f =
        let same : k ≡ i = equals k i f in
        let Late : ℕ → Type 0 = λ j. nat_lt c (thread_of w j).ready ≡ false in
        let Goal : ℕ → Type 0 =
        λ j. Issues s i c w (after_issue s c w last j (issue_of s c w j)) (Issue j) in
        inl (subst Goal (sym same) (own-issues s i c w last h n (subst Late same e)))

pub takes-keeps : (s : Start) (c : ℕ) (w : World) (last : ℕ) (o : Pick) →
    KeepsLengths w (after_pick s c w last o)
takes-keeps s c w last Bubble = record { count = refl; age = refl }
takes-keeps s c w last (Issue k) = go (nat_lt c (thread_of w k).ready)
  where
    d : Completion
    d = issue_of s c w k

    go : (b : Bool) →
        KeepsLengths w (if b then after_no_issue w last (Lost k) else after_issue s c w last k d)
    go true = record { count = refl; age = refl }
    go false = record { count = length-set w.threads k d.thread; age = refl }

-- a position of the thread
own-there : (f : List ℕ) (c i : ℕ) → has_position (map (λ slot. slot == i) f) c ≡ true →
    IsOwn (record { frame = f; thread = i }) (c % length f)
own-there f c i h = go (c % length f) (there h)
  where
    there : has_position (map (λ slot. slot == i) f) c ≡ true →
        get_or (map (λ slot. slot == i) f) (c % length f) false ≡ true
    there h =
        sym (ap (λ n. get_or (map (λ slot. slot == i) f) (c % n) false)
        (length-map f (λ slot. slot == i))) ∙ h

    go : (k : ℕ) → get_or (map (λ slot. slot == i) f) k false ≡ true →
        IsOwn (record { frame = f; thread = i }) k
    go k e = at f k e
      where
        at : (f : List ℕ) (k : ℕ) → get_or (map (λ slot. slot == i) f) k false ≡ true →
            IsOwn (record { frame = f; thread = i }) k
        at [] k e = cc
        at (x ∷ xs) zero e = record { within = omega arith; own = equals x i e }
        at (x ∷ xs) (suc k) e =
            let o = at xs k e in record { within = omega (arith, o.within); own = o.own }

there-own : (f : List ℕ) (c i : ℕ) → IsOwn (record { frame = f; thread = i }) (c % length f) →
    has_position (map (λ slot. slot == i) f) c ≡ true
there-own f c i o =
    ap (λ n. get_or (map (λ slot. slot == i) f) (c % n) false) (length-map f (λ slot. slot == i))
    ∙ at f (c % length f) o
  where
    at : (f : List ℕ) (k : ℕ) → IsOwn (record { frame = f; thread = i }) k →
        get_or (map (λ slot. slot == i) f) k false ≡ true
    at [] k o = absurd (omega (arith, o.within))
    at (x ∷ xs) zero o = let e : x ≡ i = o.own in rw e (itself i)
    at (x ∷ xs) (suc k) o = at xs k (record { within = omega (arith, o.within); own = o.own })

-- before cycle c: the thread's sleep moment in the three worlds that picking still reads
pub record CycleInvariant (s : Start) (i c : ℕ) : Type 0 where
  pub eight : length (recent s c).now.threads ≡ 8
  pub age : length (recent s c).now.turns ≡ c
  pub one : ((thread_of (recent s c).before i).own.sleep ≡ (thread_of (recent s c).now i).own.sleep)
      ⊎ (c + 2 ≤ (thread_of (recent s c).now i).ready)
  pub two :
      ((thread_of (recent s c).earlier i).own.sleep ≡ (thread_of (recent s c).now i).own.sleep)
      ⊎ (c + 1 ≤ (thread_of (recent s c).now i).ready)

pub begins : (s : Start) (i : ℕ) → length s.threads ≡ 8 → CycleInvariant s i zero
unfolding recent
begins s i n = record { eight = n; age = refl; one = inl refl; two = inl refl }

-- the registers that picking in cycle c uses
abbrev pub IsHardAt : Start → ℕ → ℕ → ℕ → Type 0
IsHardAt s slots i c = IsHardBy slots i (recent s c).earlier.registers

-- whether the thread is picked: at its own positions, while it is awake
is-picked : (s : Start) (slots i c : ℕ) → i < 8 → (w : World) → IsHardBy slots i w.registers →
    (last : ℕ) → is_this i (pick (sched_of w) c (time s.period c) last).pick ≡ (has_position
    (map (λ slot. slot == i) (frame slots)) c && nat_le (thread_of w i).own.sleep (time s.period c))
is-picked s slots i c h w set last =
    picks (sched_of w) c (time s.period c) last i h set.hard
    ∙ ap₂
    (λ (z m : ℕ). has_position (map (λ slot. slot == i) (frame z)) c && nat_le m (time s.period c))
    set.same_slots (get_or-map (λ (t : Thread). t.own.sleep) w.threads i (fresh 0))

-- an issue of the thread
pub record IssuesInCycle (s : Start) (slots i c : ℕ) : Type 0 where
  pub own : IsHardAt s slots i c → IsOwn (positions slots i) (c % length (frame slots))
  pub ready : (thread_of (recent s c).now i).ready ≤ c
  pub awake : IsHardAt s slots i c → (thread_of (recent s c).now i).own.sleep ≤ time s.period c
  pub thread : thread_of (recent s (suc c)).now i ≡ (issue_of s c (recent s c).now i).thread
  pub issues : issues_of i (recent s (suc c)).now.turns ≡ record {
    cycle = c;
    pc = (thread_of (recent s c).now i).pc;
    traps = is_trap (issue_of s c (recent s c).now i).effect;
  } ∷ issues_of i (recent s c).now.turns

-- the thread doesn't issue: the cycle isn't its turn, it isn't ready, or it sleeps
pub record Stays (s : Start) (slots i c : ℕ) : Type 0 where
  pub thread : thread_of (recent s (suc c)).now i ≡ thread_of (recent s c).now i
  pub issues : issues_of i (recent s (suc c)).now.turns ≡ issues_of i (recent s c).now.turns
  pub idle : IsHardAt s slots i c → IsOwn (positions slots i) (c % length (frame slots)) →
      (thread_of (recent s c).now i).ready ≤ c →
      (thread_of (recent s c).now i).own.sleep ≤ time s.period c → ⊥

pub cycles : (s : Start) (slots i c : ℕ) → i < 8 → CycleInvariant s i c →
    IssuesInCycle s slots i c ⊎ Stays s slots i c
unfolding recent after_turn
cycles s slots i c h g = go (takes-issues s i c r.now k.last k.pick h g.eight)
  where
    r : Recent
    r = recent s c

    k : Picked
    k = pick (sched_of r.earlier) c (time s.period c) r.now.last

    is : IsHardBy slots i r.earlier.registers →
        is_this i k.pick ≡ (has_position (map (λ slot. slot == i) (frame slots)) c
        && nat_le (thread_of r.earlier i).own.sleep (time s.period c))
    is set = is-picked s slots i c h r.earlier set r.now.last

    sync : ((thread_of r.earlier i).own.sleep ≡ (thread_of r.now i).own.sleep)
        ⊎ (c < (thread_of r.now i).ready)
    sync =
        sync_of (thread_of r.earlier i).own.sleep (thread_of r.now i).own.sleep c
        (thread_of r.now i).ready g.two

    awake : nat_le (thread_of r.earlier i).own.sleep (time s.period c) ≡ true →
        (thread_of r.now i).ready ≤ c →
        ((thread_of r.earlier i).own.sleep ≡ (thread_of r.now i).own.sleep)
        ⊎ (c < (thread_of r.now i).ready) → (thread_of r.now i).own.sleep ≤ time s.period c
    awake e l (inl same) =
        let le : (thread_of r.earlier i).own.sleep ≤ time s.period c = grind (arith, nat_tests) in
        subst (λ m. m ≤ time s.period c) same le
    awake e l (inr late) = absurd (omega arith)

    asleep : IsHardBy slots i r.earlier.registers →
        IsOwn (positions slots i) (c % length (frame slots)) →
        (thread_of r.now i).ready ≤ c → (thread_of r.now i).own.sleep ≤ time s.period c →
        ((thread_of r.earlier i).own.sleep ≡ (thread_of r.now i).own.sleep)
        ⊎ (c < (thread_of r.now i).ready) → is_this i k.pick ≡ true
    asleep set o l a (inl same) =
        let at : has_position (map (λ slot. slot == i) (frame slots)) c ≡ true =
        there-own (frame slots) c i o in
        let le : (thread_of r.earlier i).own.sleep ≤ time s.period c =
        subst (λ m. m ≤ time s.period c) (sym same) a in
        let test : nat_le (thread_of r.earlier i).own.sleep (time s.period c) ≡ true =
        grind (arith, nat_tests) in
        is set ∙ rw at test
    asleep set o l a (inr late) = absurd (omega arith)

    functions : IsHardBy slots i r.earlier.registers → is_this i k.pick ≡ true →
        (has_position (map (λ slot. slot == i) (frame slots)) c ≡ true)
        × (nat_le (thread_of r.earlier i).own.sleep (time s.period c) ≡ true)
    functions set picked =
        both (has_position (map (λ slot. slot == i) (frame slots)) c)
        (nat_le (thread_of r.earlier i).own.sleep (time s.period c)) (sym (is set) ∙ picked)

    go : Issues s i c r.now (after_pick s c r.now k.last k.pick) k.pick
        ⊎ Rests i c r.now (after_pick s c r.now k.last k.pick) k.pick →
        IssuesInCycle s slots i c ⊎ Stays s slots i c
    go (inl y) = inl (record {
      own = λ set. own-there (frame slots) c i (functions set y.picked).0;
      ready = y.ready;
      awake = λ set. awake (functions set y.picked).1 y.ready sync;
      thread = y.thread;
      issues = y.issues ∙ ap (λ n. record {
        cycle = n;
        pc = (thread_of r.now i).pc;
        traps = is_trap (issue_of s c r.now i).effect;
      } ∷ issues_of i r.now.turns) g.age;
    })
    go (inr y) = inr (record {
      thread = y.thread;
      issues = y.issues;
      idle = λ set o l a. let late = y.early (asleep set o l a sync) in omega arith;
    })

pub goes_on : (s : Start) (i c : ℕ) → i < 8 → CycleInvariant s i c → CycleInvariant s i (suc c)
unfolding recent after_turn
goes_on s i c h g =
    let r = recent s c in
    let k = pick (sched_of r.earlier) c (time s.period c) r.now.last in
    let y : KeepsLengths r.now (after_pick s c r.now k.last k.pick) =
    takes-keeps s c r.now k.last k.pick in
    let wakes : Wakes c (thread_of r.now i) (thread_of (after_pick s c r.now k.last k.pick) i) =
    takes-wakes s i c r.now k.last k.pick h g.eight in
    record {
      eight = y.count ∙ g.eight;
      age = y.age ∙ ap suc g.age;
      one = one_of c (thread_of r.now i) (thread_of (after_pick s c r.now k.last k.pick) i) wakes;
      two =
          two_of (thread_of r.before i).own.sleep c (thread_of r.now i)
          (thread_of (after_pick s c r.now k.last k.pick) i) wakes g.one;
    }
