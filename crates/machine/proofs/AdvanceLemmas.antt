-- A run of a machine goes on.
use Rattle.std.proofs.Common.{◌≡◌, ℕ, suc, ◌+◌, ◌-◌, ◌<◌, ◌≤◌, true, List, [], Option, Some}
use Rattle.std.proofs.Common.{None, refl, ap, sym, subst, ◌∙◌, arith, add-one}
use Rattle.std.specs.Prelude.{is_some}
use Rattle.std.specs.List.{list_any}
use Rattle.std.specs.Io.KnownBytes.{Appends}
use Rattle.fp_io.specs.Content.{AppendsPrefix}
use Rattle.fp_io.proofs.Prefixes.{appends_nothing}
use Rattle.fp_ports.specs.PluggedPorts.{Row}
use Rattle.rv_exec.specs.declared.outcome.Event.{Event}
use Rattle.core_model.specs.World.{Start}
use Rattle.pipe_model.specs.declared.stage_registers.Held.{Held}
use Rattle.pipe_model.specs.declared.stage_registers.Written.{Written}
use Rattle.pipe_model.specs.Stages.{StageRegisters}
use Rattle.pipeline_core.specs.declared.stages.Stages.{Stages}
use Rattle.pipeline_core.specs.Abstraction.{abstract_stages, registers_in}
use Rattle.machine.specs.declared.leaving.Leaving.{Leaving}
use Rattle.machine.specs.declared.run.Run.{Run}
use Rattle.machine.specs.declared.state.Machine.{Machine}
use Rattle.machine.specs.Observing.{Acts, HasSeen, SawInPart, next_with, puts_with, retires}
use Rattle.machine.specs.Running.{Advanced, IsSameRun, KnowsPorts, Pauses, Runs, Stops}
use Rattle.machine.specs.Sleeping.{PassedOverWith}
use Rattle.machine.specs.WorldRelation.{Refines, RefinesWith, Ticks, TicksWith}
use Rattle.machine.proofs.ObservingLemmas.{seen_begins, seen_on, seen_pass}

-- no put was met before the last cycle
pub still : (paused : Option Leaving) (at stop : ℕ) → (is_some paused ≡ true → at ≡ stop) →
    at < stop → paused ≡ None
still (Some x) at stop last below = absurd (omega (arith, last refl, below))
still None at stop last below = refl

pub never : (paused : Option Leaving) (x y : ℕ) → is_some paused ≡ true → paused ≡ None → x ≡ y
never (Some w) x y h k = cc
never None x y h k = cc

-- the bounds of an advance: its cycles, those that are skipped after them, and the end
pub up_to : (at end : ℕ) → at < end → at ≤ end
up_to at end low = omega arith

pub below_in : (at end limit : ℕ) → at < end → end ≤ limit → at < limit
below_in at end limit low within = omega arith

pub stop_within : (at stop end : ℕ) → stop ≡ at + 1 → at < end → stop ≤ end
stop_within at stop end is low = omega arith

pub as_within : (stop old limit : ℕ) → stop ≡ old → old ≤ limit → stop ≤ limit
as_within stop old limit is within = omega arith

pub goes_forth : (start at after later : ℕ) → start ≤ at → after ≡ at + 1 →
    after ≤ later → start ≤ later
goes_forth start at after later forth next on = omega arith

pub stays_here : (at stop after later : ℕ) → stop ≡ at + 1 → after ≡ at + 1 → after ≤ later →
    later ≤ stop → later ≡ after
stays_here at stop after later is next on end = omega arith

-- a cycle was done
pub begun_no_more : (start at after later x y : ℕ) → later ≡ start → start ≤ at → after ≡ at + 1 →
    after ≤ later → x ≡ y
begun_no_more start at after later x y h forth next on = absurd (omega arith)

pub advanced_as : {O : Type 0} (acts : Acts O) (s : Start) (c n : ℕ) (first : O)
    (stages : Stages) (m : Machine) (rows : List (Option Row)) (now : O)
    (prior taken : Option (List ℕ)) (a b : Option Leaving) → a ≡ b →
    Advanced acts s c n first stages m rows now prior taken a →
    Advanced acts s c n first stages m rows now prior taken b
advanced_as acts s c n first stages m rows now prior taken a b same gone =
    subst (λ (x : Option Leaving). Advanced acts s c n first stages m rows now prior taken x) same
    gone

pub paused_as : {O : Type 0} {acts : Acts O} {s : Start} {c n : ℕ} {first : O}
    {p q : StageRegisters} {a b : Machine} {rows : List (Option Row)} {now : O}
    {prior taken : Option (List ℕ)} → p ≡ q → a ≡ b →
    Pauses acts s c n first p a rows now prior taken →
    Pauses acts s c n first q b rows now prior taken
paused_as {O} {acts} {s} {c} {n} {first} {p} {q} {a} {b} {rows} {now} {prior} {taken} same there
    gone =
    subst (λ (x : Machine). Pauses acts s c n first q x rows now prior taken) there
    (subst (λ (x : StageRegisters). Pauses acts s c n first x a rows now prior taken) same gone)

-- the machine refines the next cycle after a cycle
refines_after : (s : Start) (n : ℕ) (q : StageRegisters) (m after : Machine)
    (rows new : List (Option Row)) (event : Option Event) →
    TicksWith s m.at n rows q after new event → after.at ≡ m.at + 1 →
    RefinesWith s after.at n q after new
refines_after s n q m after rows new event ticked at =
    let At : ℕ → Type 0 = λ c. RefinesWith s c n q after new in
    subst At (sym (at ∙ add-one m.at)) ticked.refines

-- a run begins with a machine's own stage registers
pub runs_begin : {O : Type 0} (acts : Acts O) (s : Start) (n : ℕ) (o : O) (stages : Stages)
    (m : Machine) (rows : List (Option Row)) (prior : Option (List ℕ)) →
    registers_in stages m.pipe.w ≡ abstract_stages m.pipe → Refines s m.at n m rows →
    Runs acts s m.at n o stages m rows o prior prior
runs_begin acts s n o stages m rows prior is st = record {
  w = m.pipe.w;
  refines = subst (λ p. RefinesWith s m.at n p m rows) (sym is) st;
  seen = seen_begins acts s m.at o prior;
}

-- skipped cycles
pub runs_pass : {O : Type 0} (acts : Acts O) (s : Start) (c n : ℕ) (first : O)
    (stages later : Stages) (m after : Machine) (rows : List (Option Row)) (o : O)
    (before now : Option (List ℕ)) → m.at ≤ after.at →
    ((w : Held Written) → RefinesWith s m.at n (registers_in stages w) m rows →
    (v : Held Written) × PassedOverWith s m.at n (registers_in later v) after rows) →
    Runs acts s c n first stages m rows o before now →
    Runs acts s c n first later after rows o before now
runs_pass acts s c n first stages later m after rows o before now forth passes run =
    let (v, passed) = passes run.w run.refines in
    record {
      w = v;
      refines = passed.refines;
      seen =
          seen_pass acts s c m.at after.at first o before now run.seen forth
          (λ k low below. passed.quiet k low below);
    }

-- one more cycle, for which nothing is put
pub runs_on : {O : Type 0} (acts : Acts O) (s : Start) (c n : ℕ) (first : O)
    (stages next : Stages) (written : Held Written) (m after : Machine)
    (rows new : List (Option Row)) (o later : O) (event : Option Event)
    (before now : Option (List ℕ)) → Runs acts s c n first stages m rows o before now →
    ((w : Held Written) → RefinesWith s m.at n (registers_in stages w) m rows →
    TicksWith s m.at n rows (registers_in next written) after new event) →
    after.at ≡ m.at + 1 → later ≡ next_with acts o event → puts_with acts o event ≡ [] →
    Runs acts s c n first next after new later before now
runs_on {O} acts s c n first stages next written m after rows new o later event before now run tick
    at is none =
    let ticked : TicksWith s m.at n rows (registers_in next written) after new event =
    tick run.w run.refines in
    let At : ℕ → Type 0 = λ d. HasSeen acts s c d first later before now in
    let nothing : puts_with acts o (retires s m.at) ≡ [] =
    ap (λ e. puts_with acts o e) (sym ticked.event_is) ∙ none in
    record {
      w = written;
      refines = refines_after s n (registers_in next written) m after rows new event ticked at;
      seen =
          subst At (sym (at ∙ add-one m.at))
          (seen_on acts s c m.at first o later before now now run.seen
          (is ∙ ap (λ e. next_with acts o e) ticked.event_is)
          (subst (λ xs. Appends now now xs) (sym nothing) (appends_nothing now)));
    }

-- a cycle whose bytes are ready
pub runs_to_put : {O : Type 0} (acts : Acts O) (s : Start) (c n : ℕ) (first : O)
    (stages : Stages) (q : StageRegisters) (m after : Machine) (rows new : List (Option Row))
    (o later : O) (event : Option Event) (before now : Option (List ℕ)) →
    Runs acts s c n first stages m rows o before now →
    ((w : Held Written) → RefinesWith s m.at n (registers_in stages w) m rows →
    TicksWith s m.at n rows q after new event) →
    after.at ≡ m.at + 1 → later ≡ next_with acts o event →
    puts_with acts o event ≡ acts.ready later →
    Pauses acts s c n first q after new later before now
runs_to_put {O} acts s c n first stages q m after rows new o later event before now run tick at is
    bytes =
    let ticked : TicksWith s m.at n rows q after new event = tick run.w run.refines in
    let low : c ≤ m.at = run.seen.low in
    let last : m.at ≡ after.at - 1 = omega (arith, at) in
    let At : ℕ → Type 0 = λ d. HasSeen acts s c d first o before now in
    let same : event ≡ retires s (after.at - 1) =
    ticked.event_is ∙ ap (λ d. retires s d) last in
    record {
      refines = refines_after s n q m after rows new event ticked at;
      some = omega (arith, at, low);
      last = o;
      earlier = subst At last run.seen;
      is = is ∙ ap (λ e. next_with acts o e) same;
      ready = ap (λ e. puts_with acts o e) (sym same) ∙ bytes;
    }

-- the bytes were put
pub put_seen : {O : Type 0} (acts : Acts O) (s : Start) (c n : ℕ) (first : O)
    (p : StageRegisters) (m : Machine) (rows : List (Option Row)) (o : O)
    (before between now : Option (List ℕ)) → Pauses acts s c n first p m rows o before between →
    Appends between now (acts.ready o) → HasSeen acts s c m.at first o before now
put_seen {O} acts s c n first p m rows o before between now pause put =
    let some : c < m.at = pause.some in
    let there : suc (m.at - 1) ≡ m.at = omega (arith, some) in
    let At : ℕ → Type 0 = λ d. HasSeen acts s c d first o before now in
    subst At there (seen_on acts s c (m.at - 1) first pause.last o before between now pause.earlier
    pause.is (subst (λ xs. Appends between now xs) (sym pause.ready) put))

pub put_goes_on : {O : Type 0} (acts : Acts O) (s : Start) (c n : ℕ) (first : O)
    (stages : Stages) (w : Held Written) (m : Machine) (rows : List (Option Row)) (o : O)
    (before between now : Option (List ℕ)) →
    Pauses acts s c n first (registers_in stages w) m rows o before between →
    Appends between now (acts.ready o) → Runs acts s c n first stages m rows o before now
put_goes_on acts s c n first stages w m rows o before between now pause put = record {
  w = w;
  refines = pause.refines;
  seen = put_seen acts s c n first (registers_in stages w) m rows o before between now pause put;
}

-- the bytes were put in part
pub put_stops : {O : Type 0} (acts : Acts O) (s : Start) (c n : ℕ) (first : O)
    (p : StageRegisters) (m : Machine) (rows : List (Option Row)) (o : O)
    (before between now : Option (List ℕ)) → Pauses acts s c n first p m rows o before between →
    AppendsPrefix between now (acts.ready o) → Stops acts s c n first p m rows before now
put_stops acts s c n first p m rows o before between now pause put = record {
  refines = pause.refines;
  seen = record {
    some = pause.some;
    last = pause.last;
    between = between;
    earlier = pause.earlier;
    part = subst (λ xs. AppendsPrefix between now xs) (sym pause.ready) put;
  };
}

-- the run of a machine is the same through its cycles
pub same_begins : (a : Run) → IsSameRun a a
same_begins a = record { machine = refl; stages = refl; loses = refl; unplugs = refl }

pub same_run : {a b c : Run} → IsSameRun a b → IsSameRun b c → IsSameRun a c
same_run {a} {b} {c} first second = record {
  machine = second.machine ∙ first.machine;
  stages = second.stages ∙ first.stages;
  loses = second.loses ∙ first.loses;
  unplugs = second.unplugs ∙ first.unplugs;
}

pub knows_still : {a b : Run} → IsSameRun a b → KnowsPorts a → KnowsPorts b
knows_still {a} {b} same known =
    same.loses ∙ known ∙ ap (λ (xs : List (Option ℕ)). list_any is_some xs) (sym same.unplugs)

-- a run ends after a put, in a put that fails, and after a cycle without a put
pub ran_to_put : {O : Type 0} (acts : Acts O) (s : Start) (c n end : ℕ) (first : O)
    (m : Machine) (rows : List (Option Row)) (o : O) (before between now : Option (List ℕ)) →
    m.at ≡ end → Pauses acts s c n first (abstract_stages m.pipe) m rows o before between →
    Appends between now (acts.ready o) →
    Refines s end n m rows × HasSeen acts s c end first o before now
ran_to_put acts s c n end first m rows o before between now at pause put =
    let Here : ℕ → Type 0 = λ e. Refines s e n m rows in
    let Seen : ℕ → Type 0 = λ e. HasSeen acts s c e first o before now in (
      subst Here at pause.refines,
      subst Seen at (put_seen acts s c n first (abstract_stages m.pipe) m rows o before between now
          pause put),
    )

pub ran_in_part : {O : Type 0} (acts : Acts O) (s : Start) (c n : ℕ) (first : O)
    (m : Machine) (rows : List (Option Row)) (o : O) (before between now : Option (List ℕ)) →
    Pauses acts s c n first (abstract_stages m.pipe) m rows o before between →
    AppendsPrefix between now (acts.ready o) →
    Refines s m.at n m rows × SawInPart acts s c m.at first before now
ran_in_part acts s c n first m rows o before between now pause put =
    let stop = put_stops acts s c n first (abstract_stages m.pipe) m rows o before between now pause
    put in
    (stop.refines, stop.seen)

pub ran_quietly : {O : Type 0} (acts : Acts O) (s : Start) (c n end : ℕ) (first : O)
    (stages : Stages) (m after : Machine) (rows new : List (Option Row)) (o later : O)
    (event : Option Event) (before now : Option (List ℕ)) →
    Runs acts s c n first stages m rows o before now →
    ((w : Held Written) → RefinesWith s m.at n (registers_in stages w) m rows →
    Ticks s m.at n rows after new event) →
    after.at ≡ m.at + 1 → after.at ≡ end → later ≡ next_with acts o event →
    puts_with acts o event ≡ [] →
    Refines s end n after new × HasSeen acts s c end first later before now
ran_quietly acts s c n end first stages m after rows new o later event before now run tick at here
    is none =
    let ticked : Ticks s m.at n rows after new event = tick run.w run.refines in
    let Here : ℕ → Type 0 = λ e. Refines s e n after new in
    let Seen : ℕ → Type 0 = λ e. HasSeen acts s c e first later before now in
    let nothing : puts_with acts o (retires s m.at) ≡ [] =
    ap (λ e. puts_with acts o e) (sym ticked.event_is) ∙ none in
    let there : suc m.at ≡ end = omega (arith, at, here) in (
      subst Here there ticked.refines,
      subst Seen there (seen_on acts s c m.at first o later before now now run.seen
          (is ∙ ap (λ e. next_with acts o e) ticked.event_is)
          (subst (λ xs. Appends now now xs) (sym nothing) (appends_nothing now))),
    )

-- a run that stopped, whose machine has its pipe again
pub stopped_given_back : {O : Type 0} (acts : Acts O) (s : Start) (c n : ℕ) (first : O)
    (q : StageRegisters) (m after : Machine) (rows : List (Option Row))
    (before now : Option (List ℕ)) → abstract_stages after.pipe ≡ q →
    after ≡ record m { pipe = after.pipe } → Stops acts s c n first q m rows before now →
    Refines s after.at n after rows × SawInPart acts s c after.at first before now
stopped_given_back acts s c n first q m after rows before now is same stop =
    let p : StageRegisters = abstract_stages after.pipe in
    let moved : RefinesWith s m.at n p m rows =
    subst (λ x. RefinesWith s m.at n x m rows) (sym is) stop.refines in
    let With : Machine → Type 0 = λ x. RefinesWith s x.at n p x rows in
    let Saw : ℕ → Type 0 = λ e. SawInPart acts s c e first before now in
    (subst With (sym same) moved, subst Saw (ap (λ (x : Machine). x.at) (sym same)) stop.seen)

-- no cycle is to be done
pub ran_nothing : {O : Type 0} (acts : Acts O) (s : Start) (n end : ℕ) (m : Machine)
    (rows : List (Option Row)) (o : O) (prior : Option (List ℕ)) → m.at ≡ end →
    Refines s m.at n m rows → Refines s end n m rows × HasSeen acts s m.at end o o prior prior
ran_nothing acts s n end m rows o prior at st =
    let Here : ℕ → Type 0 = λ e. Refines s e n m rows in
    let Seen : ℕ → Type 0 = λ e. HasSeen acts s m.at e o o prior prior in
    (subst Here at st, subst Seen at (seen_begins acts s m.at o prior))

-- the same of an equal machine
pub given_ticks : (s : Start) (c n : ℕ) (rows new : List (Option Row)) (event : Option Event)
    (a b : Machine) → Ticks s c n rows b new event → a ≡ b → Ticks s c n rows a new event
given_ticks s c n rows new event a b ticked same =
    subst (λ (m : Machine). Ticks s c n rows m new event) (sym same) ticked

pub given_seen : {O : Type 0} (acts : Acts O) (s : Start) (c n end : ℕ) (first o : O)
    (rows : List (Option Row)) (before now : Option (List ℕ)) (a b : Machine) →
    Refines s end n b rows × HasSeen acts s c end first o before now → a ≡ b →
    Refines s end n a rows × HasSeen acts s c end first o before now
given_seen acts s c n end first o rows before now a b done same = (
  subst (λ (m : Machine). Refines s end n m rows) (sym same) done.0,
  done.1,
)

pub given_part : {O : Type 0} (acts : Acts O) (s : Start) (c n : ℕ) (first : O)
    (rows : List (Option Row)) (before now : Option (List ℕ)) (a b : Machine) →
    Refines s b.at n b rows × SawInPart acts s c b.at first before now → a ≡ b →
    Refines s a.at n a rows × SawInPart acts s c a.at first before now
given_part acts s c n first rows before now a b done same = (
  subst (λ (m : Machine). Refines s m.at n m rows) (sym same) done.0,
  subst (λ (m : Machine). SawInPart acts s c m.at first before now) (sym same) done.1,
)
