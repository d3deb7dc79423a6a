-- The output of a machine that was prepared.
use Rattle.std.proofs.Common.{◌≡◌, ℕ, List, Option, Result, Ok, Err, sym, subst, ◌∙◌}
use Rattle.std.specs.Prelude.{OnOk, OnErr}
use Rattle.std.specs.Io.KnownBytes.{Appends}
use Rattle.fp_io.specs.Content.{AppendsPrefix}
use Rattle.fp_ports.specs.PluggedPorts.{Row}
use Rattle.trace_print.specs.Text.{text}
use Rattle.core_model.specs.World.{Start, events}
use Rattle.machine.specs.declared.state.Machine.{Machine}
use Rattle.machine.specs.WorldRelation.{Refines, HasRun, Stopped, AreLeft}
use Rattle.machine.proofs.WordLemmas.{ports_after}
use Rattle.machine.specs.DumpedState.{seen}
use Rattle.flexpret_top.specs.declared.ready.Ready.{Ready}
use Rattle.phase_log.specs.LoggedRuns.{HasLogged, LogStopped, StartsAs}
use Rattle.phase_log.specs.Text.{phases_text}
use Rattle.core_model.specs.Phases.{phases}
use Rattle.flexpret_top.specs.Prepared.{Gone, HasLeftPartOfRun, HasLeftRun, Runs}

abbrev pub Passes : Ready → List (Option Row) → Machine → List (Option Row) → Type 0
Passes r first m rows =
    (s : Start) → Refines s 0 r.cycles r.machine first → Gone s r.cycles first m rows

pub dump-ok : {A E : Type 0} → (r : Ready) (first rows : List (Option Row)) (m : Machine)
    (before after : Option (List ℕ)) (put : Result A E) → Passes r first m rows →
    OnOk put ((s : Start) (c n : ℕ) → Refines s c n m rows → Appends before after (seen s c)) →
    OnOk put ((written : List ℕ) → Runs r first (λ s. seen s r.cycles) written →
    Appends before after written)
dump-ok r first rows m before after (Ok x) passes puts =
    λ written runs. (let Adds : List ℕ → Type 0 = Appends before after in subst Adds
    (sym runs.text_is) (puts runs.start r.cycles r.cycles (passes runs.start runs.refines).refines))
dump-ok r first rows m before after (Err e) passes puts = tt

pub dump-err : {A E : Type 0} → (r : Ready) (first rows : List (Option Row)) (m : Machine)
    (before after : Option (List ℕ)) (put : Result A E) → Passes r first m rows →
    OnErr put
    ((s : Start) (c n : ℕ) → Refines s c n m rows → AppendsPrefix before after (seen s c)) →
    OnErr put ((written : List ℕ) → Runs r first (λ s. seen s r.cycles) written →
    AppendsPrefix before after written)
dump-err r first rows m before after (Ok x) passes puts = tt
dump-err r first rows m before after (Err e) passes puts =
    λ written runs. (let Adds : List ℕ → Type 0 = AppendsPrefix before after in subst Adds
    (sym runs.text_is) (puts runs.start r.cycles r.cycles (passes runs.start runs.refines).refines))

-- a run without output has done its cycles
pub gone-after : (s : Start) (n : ℕ) (first : List (Option Row)) (m later : Machine)
    (rows : List (Option Row)) → m.at ≡ 0 → Refines s 0 n m first →
    (Refines s m.at n m first → Refines s n n later rows) → AreLeft first rows →
    Gone s n first later rows
gone-after s n first m later rows start st goes left =
    let At : ℕ → Type 0 = λ c. Refines s c n m first in
    record { refines = goes (subst At (sym start) st); left = left }

-- the ports after the run
pub ports-gone : (r : Ready) (first rows : List (Option Row)) (m : Machine) →
    Passes r first m rows → HasLeftRun r first rows
ports-gone r first rows m passes s st starts =
    let gone = passes s st in ports_after s r.cycles r.cycles m first rows gone.refines gone.left

pub ports-run : {A E : Type 0} → (r : Ready) (thread : ℕ) (first rows : List (Option Row))
    (m : Machine) (before after : Option (List ℕ)) (put : Result A E) → AreLeft first rows →
    OnOk put ((s : Start) → Refines s 0 r.cycles r.machine first →
    HasRun s r.cycles r.cycles thread first m rows before after) → OnOk put (HasLeftRun
    r first rows)
ports-run r thread first rows m before after (Ok x) words runs =
    λ s st starts. ports_after s r.cycles r.cycles m first rows (runs s st).refines words
ports-run r thread first rows m before after (Err e) words runs = tt

-- the trace that a run writes
pub trace-ok : {A E : Type 0} → (r : Ready) (thread : ℕ) (first rows : List (Option Row))
    (m : Machine) (before after : Option (List ℕ)) (put : Result A E) →
    OnOk put ((s : Start) → Refines s 0 r.cycles r.machine first →
    HasRun s r.cycles r.cycles thread first m rows before after) → OnOk put ((written : List ℕ) →
    Runs r first (λ s. text (events s thread r.cycles)) written → Appends before after written)
trace-ok r thread first rows m before after (Ok x) run =
    λ written runs. (let Adds : List ℕ → Type 0 = Appends before after in
    subst Adds (sym runs.text_is) (run runs.start runs.refines).put)
trace-ok r thread first rows m before after (Err e) run = tt

pub trace-err : {A E : Type 0} → (r : Ready) (thread : ℕ) (first rows : List (Option Row))
    (m : Machine) (before after : Option (List ℕ)) (put : Result A E) → OnErr put ((s : Start) →
    Refines s 0 r.cycles r.machine first → Stopped s r.cycles thread first m rows before after) →
    OnErr put ((written : List ℕ) → Runs r first (λ s. text (events s thread r.cycles)) written →
    AppendsPrefix before after written)
trace-err r thread first rows m before after (Ok x) run = tt
trace-err r thread first rows m before after (Err e) run =
    λ written runs. (let Adds : List ℕ → Type 0 = AppendsPrefix before after in
    subst Adds (sym runs.text_is) (run runs.start runs.refines).put)

-- the lines of settings that a run writes
abbrev pub HasLoggedAll : Ready → List (Option Row) → Machine → List (Option Row) →
    Option (List ℕ) → Option (List ℕ) → Type 0
HasLoggedAll r first m rows before after =
    (s : Start) → StartsAs s r.setup → Refines s 0 r.cycles r.machine first →
    HasLogged s r.cycles r.cycles first m rows before after

pub phases-ok : {A E : Type 0} → (r : Ready) (first rows : List (Option Row))
    (m : Machine) (before after : Option (List ℕ)) (put : Result A E) →
    OnOk put (HasLoggedAll r first m rows before after) →
    OnOk put ((written : List ℕ) → Runs r first (λ s. phases_text (phases s r.cycles)) written →
    Appends before after written)
phases-ok r first rows m before after (Ok x) logs =
    λ written runs. (let Adds : List ℕ → Type 0 = Appends before after in
    subst Adds (sym runs.text_is) (logs runs.start runs.starts runs.refines).put)
phases-ok r first rows m before after (Err e) logs = tt

pub phases-err : {A E : Type 0} → (r : Ready) (first rows : List (Option Row))
    (m : Machine) (before after : Option (List ℕ)) (put : Result A E) →
    OnErr put ((s : Start) → StartsAs s r.setup → Refines s 0 r.cycles r.machine first →
    LogStopped s r.cycles first m rows before after) → OnErr put ((written : List ℕ) →
    Runs r first (λ s. phases_text (phases s r.cycles)) written → AppendsPrefix before
    after written)
phases-err r first rows m before after (Ok x) logs = tt
phases-err r first rows m before after (Err e) logs =
    λ written runs. (let Adds : List ℕ → Type 0 = AppendsPrefix before after in
    subst Adds (sym runs.text_is) (logs runs.start runs.starts runs.refines).put)

pub phases-left : {A E : Type 0} → (r : Ready) (first rows : List (Option Row))
    (m : Machine) (before after : Option (List ℕ)) (put : Result A E) → AreLeft first rows →
    OnOk put (HasLoggedAll r first m rows before after) → OnOk put (HasLeftRun r first rows)
phases-left r first rows m before after (Ok x) words logs =
    λ s st starts. ports_after s r.cycles r.cycles m first rows (logs s starts st).refines words
phases-left r first rows m before after (Err e) words logs = tt

-- the same for a run that a failing sink stopped
pub trace-part : {A E : Type 0} → (r : Ready) (thread : ℕ) (first rows : List (Option Row))
    (m : Machine) (before after : Option (List ℕ)) (put : Result A E) →
    OnErr put ((s : Start) → Refines s 0 r.cycles r.machine first →
    Stopped s r.cycles thread first m rows before after) → OnErr put (HasLeftPartOfRun r first rows)
trace-part r thread first rows m before after (Ok x) run = tt
trace-part r thread first rows m before after (Err e) run =
    λ s st starts. (let stopped = run s st in record {
      cycles = m.at;
      within = stopped.within;
      ports = ports_after s m.at r.cycles m first rows stopped.refines stopped.left;
    })

pub phases-part : {A E : Type 0} → (r : Ready) (first rows : List (Option Row))
    (m : Machine) (before after : Option (List ℕ)) (put : Result A E) →
    OnErr put ((s : Start) → StartsAs s r.setup → Refines s 0 r.cycles r.machine first →
    LogStopped s r.cycles first m rows before after) → OnErr put (HasLeftPartOfRun r first rows)
phases-part r first rows m before after (Ok x) logs = tt
phases-part r first rows m before after (Err e) logs =
    λ s st starts. (let stopped = logs s starts st in record {
      cycles = m.at;
      within = stopped.within;
      ports = ports_after s m.at r.cycles m first rows stopped.refines stopped.left;
    })

pub left-by : {A E : Type 0} → (put : Result A E) (r : Ready) (first rows : List (Option Row)) →
    HasLeftRun r first rows → OnOk put (HasLeftRun r first rows)
left-by (Ok x) r first rows left = left
left-by (Err e) r first rows left = tt

-- one put writes the whole text
pub put-ok : {A E : Type 0} → (put : Result A E) (before after : Option (List ℕ))
    (bytes text : List ℕ) → bytes ≡ text → OnOk put (Appends before after bytes) →
    OnOk put ((written : List ℕ) → written ≡ text → Appends before after written)
put-ok (Ok x) before after bytes text same puts =
    λ written is.
    (let Adds : List ℕ → Type 0 = Appends before after in subst Adds (same ∙ sym is) puts)
put-ok (Err e) before after bytes text same puts = tt

pub put-err : {A E : Type 0} → (put : Result A E) (before after : Option (List ℕ))
    (bytes text : List ℕ) → bytes ≡ text → OnErr put (AppendsPrefix before after bytes) →
    OnErr put ((written : List ℕ) → written ≡ text → AppendsPrefix before after written)
put-err (Ok x) before after bytes text same puts = tt
put-err (Err e) before after bytes text same puts =
    λ written is.
    (let Adds : List ℕ → Type 0 = AppendsPrefix before after in subst Adds (same ∙ sym is) puts)
