-- Cycles in which nobody is awake and nothing is in the pipeline.
use Rattle.std.proofs.Common.{◌≡◌, ℕ, zero, suc, ◌+◌, ◌-◌, ◌*◌, ◌<◌, ◌≤◌, ◌%◌, inl, inr, Bool}
use Rattle.std.proofs.Common.{true, false, List, [], ◌∷◌, get_or, length, map, find}
use Rattle.std.proofs.Common.{None, Option, refl, ap, sym, subst, arith, add-one}
use Rattle.std.specs.Prelude.{◌==◌, ◌&&◌, nat_le, is_some}
use Rattle.std.specs.List.{list_any}
use Rattle.std.specs.Int.{div_ceil}
use Rattle.std.proofs.Math.Nat.{mul-le-mul_left}
use Rattle.std.proofs.lemmas.Grind.{div_ceil_times}
use Rattle.std.proofs.lemmas.Bool.{cases_lt}
use Rattle.std.proofs.lemmas.Bool.Decides.{nat_tests}
use Rattle.fp_ports.specs.PluggedPorts.{Row}
use Rattle.slot_table.specs.Frame.{IsTurn, turn}
use Rattle.slot_table.specs.declared.frame.Turn.{Turn}
use Rattle.slot_table.specs.declared.frame.Turn.TheVariants.{Thread, Soft, Nobody}
use Rattle.slot_table.proofs.Turns.{IsTurn-turn}
use Rattle.slot_scheduler.specs.ModeWord.{is_active, mode_of}
use Rattle.slot_scheduler.specs.Picking.{Picked, after_last, donation, pick_of_search}
use Rattle.slot_scheduler.specs.Picking.{is_awake, pick, pick_in, takes_donated}
use Rattle.slot_scheduler.specs.declared.picking.Pick.TheVariants as chosen
use Rattle.slot_scheduler.specs.declared.picking.Sched.{Sched}
use Rattle.timer_unit.specs.Time.{time}
use Rattle.core_model.specs.World.{Start, sched_by}
use Rattle.pipe_model.specs.declared.stage_registers.Held.TheVariants as stage
use Rattle.pipe_model.specs.Stages.{After, StageRegisters, State, Ticked, next_after_fetch}
use Rattle.pipe_model.specs.Stages.{bank_after, decode_stage, execute_stage, fetch_stage}
use Rattle.pipe_model.specs.Stages.{finish, memory_stage, ports_stored, next_after_redirect}
use Rattle.pipe_model.specs.Stages.{retired_event, step, words_stored, writeback_stage}
use Rattle.pipe_model.specs.Relation.{Begins, RefinesNext, PortsRefine}
use Rattle.pipe_model.specs.Relation.{PipelineRefines, event_in, turn_at}
use Rattle.pipe_model.specs.PipelineLaws.{empty}
use Rattle.pipe_model.proofs.Keeping.{keeps}
use Rattle.pipeline_core.specs.Abstraction.{abstract_state, registers_in}
use Rattle.pipeline_core.specs.Abstraction.{ticked_with}
use Rattle.machine.specs.declared.state.Machine.{Machine}
use Rattle.pipe_model.specs.declared.stage_registers.Held.{Held}
use Rattle.pipe_model.specs.declared.stage_registers.Written.{Written}
use Rattle.pipeline_core.specs.declared.stages.Stages.{Stages}
use Rattle.machine.specs.WorldRelation.{HasRun, Refines, RefinesWith, TicksWith}
use Rattle.machine.specs.Sleeping.{NobodyAwake, PassedOverWith, SleepsOn, idle_tick}
use Rattle.machine.proofs.Retiring.{none_due}
use Rattle.machine.proofs.RunLemmas.{run_begins, ticks}

false-right : (b : Bool) → (b && false) ≡ false
false-right true = refl
false-right false = refl

-- a search among threads that all fail the test
nobody_found : (p : ℕ → Bool) (last : ℕ) (steps : List ℕ) →
    ((thread : ℕ) → thread < 8 → p thread ≡ false) → find p (map (λ d. (last + d) % 8) steps) ≡ None
nobody_found p last [] none = refl
nobody_found p last (d ∷ steps) none =
    let small : (last + d) % 8 < 8 = omega arith in
    rw (none ((last + d) % 8) small) (nobody_found p last steps none)

none_donated : (s : Sched) (now last : ℕ) → NobodyAwake s now →
    donation s now last ≡ record { pick = chosen.Bubble; last = last }
unfolding donation after_last
none_donated s now last asleep =
    let none : (thread : ℕ) → thread < 8 → takes_donated s now thread ≡ false =
    λ thread below. rw (asleep thread below) (false-right (mode_of s.modes thread == 2)) in
    ap (λ (o : Option ℕ). pick_of_search o last)
    (nobody_found (takes_donated s now) last (1 ∷ 2 ∷ 3 ∷ 4 ∷ 5 ∷ 6 ∷ 7 ∷ 8 ∷ []) none)

nobody_picked : (s : Sched) (cycle now last : ℕ) → NobodyAwake s now →
    pick s cycle now last ≡ record { pick = chosen.Bubble; last = last }
unfolding pick
nobody_picked s cycle now last asleep = go (turn s.slots cycle) (IsTurn-turn s.slots cycle)
  where
    go : (t : Turn) → IsTurn t → pick_in s now last t ≡ record { pick = chosen.Bubble; last = last }
    go Nobody is = refl
    go Soft is = none_donated s now last asleep
    go (Thread k) is = rw (asleep k is) (none_donated s now last asleep)

-- whatever the turn in W is
asleep_with : (next : List ℕ) (w : Held Written) (u : State) (c : ℕ) →
    NobodyAwake (sched_by u.control.registers u.control.sleeps) (time u.period c) →
    step (record (empty next) { w = w }) u c ≡ idle_tick next u
unfolding step bank_after writeback_stage retired_event memory_stage words_stored ports_stored
    execute_stage decode_stage next_after_redirect fetch_stage next_after_fetch
asleep_with next w u c asleep =
    let left : After = record { e = stage.Bubble; control = u.control; redirect = None } in
    ap (λ (picked : Picked). finish (record (empty next) { w = w }) u c picked stage.Bubble left)
    (nobody_picked (sched_by u.control.registers u.control.sleeps) c (time u.period c) u.last
    asleep)

pub sleeps_on : SleepsOn
sleeps_on next u c asleep = asleep_with next stage.Bubble u c asleep

-- the machine at another cycle
abbrev pub come_to : Machine → ℕ → Machine
come_to m c = record m { at = c }

-- one skipped cycle
slept : (s : Start) (c n : ℕ) (next : List ℕ) (w : Held Written) (m : Machine)
    (rows : List (Option Row)) → length rows ≡ 8 → list_any is_some m.unplugs ≡ false →
    NobodyAwake m.units.sched (time m.units.clock c) → c < n + 3 →
    RefinesWith s c n (record (empty next) { w = w }) (come_to m c) rows →
    TicksWith s c n rows (empty next) (come_to m (suc c)) rows None
slept s c n next w m rows eight none asleep within st =
    ticks s n (record (empty next) { w = w }) (empty next) (come_to m c) (come_to m (suc c)) rows
    rows rows None eight (sym (none_due m.unplugs c rows 8 none)) within st kept
    (sym (add-one c)) refl
  where
    same : step (record (empty next) { w = w }) (abstract_state m.units rows) c
        ≡ ticked_with (empty next) m.units rows None
    same = asleep_with next w (abstract_state m.units rows) c asleep

    kept : Begins s → PortsRefine s c rows →
        PipelineRefines s c (record (empty next) { w = w }) (abstract_state m.units rows) →
        RefinesNext s c rows (ticked_with (empty next) m.units rows None)
    kept begins shows refines =
        subst (λ (t : Ticked). RefinesNext s c rows t) same
        (keeps s c (record (empty next) { w = w }) (abstract_state m.units rows) begins shows
        refines)

-- a machine that stays at its cycle has skipped none
pub stays : (s : Start) (n : ℕ) (p : StageRegisters) (m : Machine) (rows : List (Option Row)) →
    RefinesWith s m.at n p m rows → PassedOverWith s m.at n p m rows
stays s n p m rows st = record { refines = st; quiet = λ k low below. absurd (omega arith) }

-- after one skipped cycle there are no turns at all
passes : (s : Start) (c n j : ℕ) (next : List ℕ) (w : Held Written) (m : Machine)
    (rows : List (Option Row)) → length rows ≡ 8 → list_any is_some m.unplugs ≡ false →
    ((k : ℕ) → c ≤ k → k < c + suc j → NobodyAwake m.units.sched (time m.units.clock k)) →
    c + suc j ≤ n + 3 → RefinesWith s c n (record (empty next) { w = w }) (come_to m c) rows →
    PassedOverWith s c n (empty next) (come_to m (c + suc j)) rows
passes s c n zero next w m rows eight none asleep within st =
    let ticked : TicksWith s c n rows (empty next) (come_to m (suc c)) rows None =
    slept s c n next w m rows eight none (asleep c (omega arith) (omega arith)) (omega arith) st in
    let quiet : (k : ℕ) → c ≤ k → k < suc c → event_in (k - 4) (turn_at s k 3) ≡ None =
    λ k low below.
    let here : c ≡ k = omega arith in
    subst (λ (d : ℕ). event_in (d - 4) (turn_at s d 3) ≡ None) here (sym ticked.event_is) in
    let done : PassedOverWith s c n (empty next) (come_to m (suc c)) rows =
    record { refines = ticked.refines; quiet = quiet } in
    let one : suc c ≡ c + 1 = omega arith in
    subst (λ (d : ℕ). PassedOverWith s c n (empty next) (come_to m d) rows) one done
passes s c n (suc j) next w m rows eight none asleep within st =
    let next_is : c + suc (suc j) ≡ suc (c + suc j) = omega arith in
    let before : PassedOverWith s c n (empty next) (come_to m (c + suc j)) rows =
    passes s c n j next w m rows eight none
    (λ k low below. asleep k low (omega arith)) (omega arith) st in
    let ticked : TicksWith s (c + suc j) n rows (empty next) (come_to m (suc (c + suc j))) rows
    None =
    slept s (c + suc j) n next stage.Bubble m rows eight none
    (asleep (c + suc j) (omega arith) (omega arith)) (omega arith) before.refines in
    let quiet : (k : ℕ) → c ≤ k → k < suc (c + suc j) → event_in (k - 4) (turn_at s k 3) ≡ None =
    λ k low below. elim (cases_lt k (c + suc j)) [
      | inl sooner ↦ before.quiet k low sooner
      | inr last ↦
          (let here : c + suc j ≡ k = omega arith in
          subst (λ (d : ℕ). event_in (d - 4) (turn_at s d 3) ≡ None) here (sym ticked.event_is))
    ] in
    let done : PassedOverWith s c n (empty next) (come_to m (suc (c + suc j))) rows =
    record { refines = ticked.refines; quiet = quiet } in
    subst (λ (d : ℕ). PassedOverWith s c n (empty next) (come_to m d) rows) (sym next_is) done

-- the cycles up to a later one are skipped
passes_to : (s : Start) (n d : ℕ) (next : List ℕ) (w : Held Written) (m : Machine)
    (rows : List (Option Row)) → length rows ≡ 8 → list_any is_some m.unplugs ≡ false → m.at < d →
    ((k : ℕ) → m.at ≤ k → k < d → NobodyAwake m.units.sched (time m.units.clock k)) → d ≤ n + 3 →
    RefinesWith s m.at n (record (empty next) { w = w }) m rows →
    PassedOverWith s m.at n (empty next) (come_to m d) rows
passes_to s n d next w m rows eight none forth asleep within st =
    let there : m.at + suc (d - m.at - 1) ≡ d = omega (arith, forth) in
    subst (λ (e : ℕ). PassedOverWith s m.at n (empty next) (come_to m e) rows) there
    (passes s m.at n (d - m.at - 1) next w m rows eight none
    (λ k low below. asleep k low (omega (arith, forth, below))) (omega (arith, forth, within)) st)

-- the cycles up to d are skipped
pub passed_over_with : (s : Start) (n d : ℕ) (stages : Stages) (w : Held Written) (m : Machine)
    (rows : List (Option Row)) → length rows ≡ 8 → (m.at < d → list_any is_some m.unplugs ≡ false) →
    ((v : Held Written) → registers_in stages v ≡ record (empty stages.next) { w = v }) → m.at ≤ d →
    ((k : ℕ) → m.at ≤ k → k < d → NobodyAwake m.units.sched (time m.units.clock k)) → d ≤ n + 3 →
    RefinesWith s m.at n (registers_in stages w) m rows →
    (v : Held Written) × PassedOverWith s m.at n (registers_in stages v) (come_to m d) rows
passed_over_with s n d stages w m rows eight none is forth asleep within st =
    elim (cases_lt m.at d) [
      | inl more ↦ (
        stage.Bubble,
        subst (λ p. PassedOverWith s m.at n p (come_to m d) rows) (sym (is stage.Bubble))
            (passes_to s n d stages.next w m rows eight (none more) more asleep within
            (subst (λ p. RefinesWith s m.at n p m rows) (is w) st)),
      )
      | inr end ↦ (
        w,
        (let here : m.at ≡ d = omega (arith, forth, end) in
            subst (λ (e : ℕ). PassedOverWith s m.at n (registers_in stages w) (come_to m e) rows)
            here
            (stays s n (registers_in stages w) m rows st)),
      )
    ]

-- a cycle before the first one that reaches a moment
sooner : (moment length cycles period c : ℕ) → cycles * length < moment + length → c < cycles →
    period ≤ length → period * c < moment
sooner moment length cycles period c short below long =
    let up : (c + 1) * length ≤ cycles * length = grind arith in
    let slower : c * period ≤ c * length = mul-le-mul_left c long in
    omega arith

pub before_moment : (moment length cycles period c : ℕ) → cycles ≡ div_ceil moment length →
    0 < length → period ≤ length → c < cycles → time period c < moment
before_moment moment length cycles period c are some long below =
    let short : cycles * length < moment + length = rw are (div_ceil_times moment length some).1 in
    sooner moment length cycles period c short below long

-- before the least sleep moment of the active threads nobody is awake
pub before_waking : (s : Sched) (wakes now : ℕ) →
    ((thread : ℕ) → thread < 8 → is_active (mode_of s.modes thread) ≡ true →
    wakes ≤ get_or s.sleep thread 0) → now < wakes → NobodyAwake s now
unfolding is_awake
before_waking s wakes now least before thread below = go (is_active (mode_of s.modes thread)) refl
  where
    late : (moment : ℕ) → wakes ≤ moment → nat_le moment now ≡ false
    late moment h = grind (arith, nat_tests)

    go : (active : Bool) → is_active (mode_of s.modes thread) ≡ active →
        (active && nat_le (get_or s.sleep thread 0) now) ≡ false
    go false e = refl
    go true e = late (get_or s.sleep thread 0) (least thread below e)

-- the run of a machine that has done no cycle
pub run_begins_at : (s : Start) (n thread : ℕ) (m : Machine) (rows : List (Option Row))
    (prior : Option (List ℕ)) → m.at ≡ 0 → Refines s 0 n m rows →
    HasRun s m.at n thread rows m rows prior prior
run_begins_at s n thread m rows prior start st =
    let Run : ℕ → Type 0 = λ c. HasRun s c n thread rows m rows prior prior in
    subst Run (sym start) (run_begins s n thread m rows prior st)
