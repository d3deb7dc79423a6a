-- The outcome of a command, from what the calls below say of it.
use Rattle.std.proofs.Common.{◌≡◌, ◌≢◌, ◌⊎◌, ℕ, [], Option, Some, None}
use Rattle.std.proofs.Common.{inl, inr, refl, sym, subst, arith}
use Rattle.std.specs.Prelude.{IfSome}
use Rattle.fp_elf.specs.Law.{ReadsBack}
use Rattle.fp_io.proofs.Prefixes.{appends_nothing}
use Rattle.fp_io.specs.Causes.{HasRisen}
use Rattle.fp_io.specs.Content.{FileMap}
use Rattle.fp_setup.specs.AcceptedSetups.{AcceptedKeepRules}
use Rattle.command_line.specs.declared.asked.Ask.{Ask}
use Rattle.isolation.specs.RetiredTraces.{RetiredTraceAlone, RetiredTraceByPhases}
use Rattle.visit_bounds.specs.SetupInSettings.{CallVisitsStayBoundedInSettings}
use Rattle.visit_bounds.specs.SetupInSettings.{VisitsStayBoundedInSettings}
use Rattle.commands.specs.Answer.Answer.{Says}
use Rattle.commands.specs.declared.status.Status.TheVariants.{NoMemory, Usage}
use Rattle.flexpret_top.specs.Command.{Answered, Began, IsAnswerTo, Said}
use Rattle.flexpret_top.specs.Command.{HasLeftBy, HasLeftCutShort, HasLeftUnrun}
use Rattle.flexpret_top.specs.Outcome.{KnownOutcome, Outcome, State}
use Rattle.flexpret_top.proofs.Ending.{is_status, unasked, unequal, unrun-same}
use Rattle.flexpret_top.proofs.Headlines.{as-run-over, call-visits-over, imported-over}
use Rattle.flexpret_top.proofs.Headlines.{isolated-over, visits-over}

-- the theorems behind the guarantees
pub record Theorems : Type 0 where
  pub rules : AcceptedKeepRules
  pub by_view : RetiredTraceAlone
  pub by_phases : RetiredTraceByPhases
  pub visits : VisitsStayBoundedInSettings
  pub call_visits : CallVisitsStayBoundedInSettings
  pub imported : ReadsBack

-- status 0 is one of those at which the whole text was written
zero-said : {Q : Type 0} (status : ℕ) → status ≡ 0 →
    (status ≢ 7 → status ≢ 8 → status ≢ 9 → Q) → Q
zero-said status zero said =
    said (λ e. unequal 0 7 (let is : 0 ≡ 7 = rw zero at e in is) refl)
    (λ e. unequal 0 8 (let is : 0 ≡ 8 = rw zero at e in is) refl)
    (λ e. unequal 0 9 (let is : 0 ≡ 9 = rw zero at e in is) refl)

-- the outcome for known files
pub known-of : {F K P : Type 0} (t : Theorems) (contents : Option FileMap) (asked : Option Ask)
    (before after : State F K P) (status : ℕ) →
    (status ≢ 7 → status ≢ 8 → status ≢ 9 → IfSome contents (λ files.
    Said (IsAnswerTo asked files before.rows) status before.written after.written)) →
    (status ≡ 8 → IfSome contents (λ files.
    Began (IsAnswerTo asked files before.rows) before.written after.written)) →
    (¬ HasRisen before.read_faults after.read_faults → ¬ HasRisen before.write_faults
    after.write_faults →
    IfSome contents (λ files. (status ≡ 9) ⊎ Answered (IsAnswerTo asked files before.rows) status))
    →
    (status ≡ 0 → IfSome contents (λ files. HasLeftBy asked files before.rows after.rows)) →
    (status ≡ 8 → IfSome contents (λ files. HasLeftCutShort asked files before.rows after.rows)) →
    (status ≡ 9 → IfSome contents (λ files. HasLeftUnrun asked files before.rows after.rows)) →
    IfSome contents (λ files. KnownOutcome files asked before after status)
known-of t None asked before after status said prefix complete ports part unrun = tt
known-of t (Some files) asked before after status said prefix complete ports part unrun = record {
  said = said;
  prefix = prefix;
  complete = complete;
  isolated =
      λ zero. isolated-over t.by_view t.by_phases t.rules asked files before.rows
      before.written after.written (whole zero);
  as_run =
      λ zero. as-run-over t.by_view t.rules asked files before.rows before.written
      after.written (whole zero);
  visits =
      λ zero. visits-over t.visits asked files before.rows before.written after.written
      (whole zero);
  call_visits =
      λ zero. call-visits-over t.call_visits asked files before.rows before.written
      after.written (whole zero);
  imported =
      λ zero. imported-over t.imported asked files before.rows before.written after.written
      (whole zero);
  ports = ports;
  part = part;
  unrun = unrun;
}
  where
    whole : status ≡ 0 →
        Said (IsAnswerTo asked files before.rows) 0 before.written after.written
    whole zero =
        let At : ℕ → Type 0 =
        λ k. Said (IsAnswerTo asked files before.rows) k before.written after.written in
        subst At zero (zero-said status zero said)

-- from a command and its status to the arguments and the number
pub outcome-of : {F K P : Type 0} (looks : Type 0) (asked : Option Ask) (command : Ask)
    (before after : State F K P) (status number : ℕ) → asked ≡ Some command → status ≡ number →
    Outcome looks (Some command) before after number → Outcome looks asked before after status
outcome-of looks asked command before after status number is same outcome =
    let Of : Option Ask → Type 0 = λ o. Outcome looks o before after number in
    let At : ℕ → Type 0 = λ n. Outcome looks asked before after n in
    subst At (sym same) (subst Of (sym is) outcome)

-- the outcome of a usage error
usage-known : {F K P : Type 0} (contents : Option FileMap) (s : State F K P) →
    IfSome contents (λ files. KnownOutcome files None s s 2)
usage-known None s = tt
usage-known (Some files) s = record {
  said =
      λ seven eight nine.
      record { answer = Says 2 []; is = refl; said = (refl, appends_nothing s.written) };
  prefix = λ eight. unequal 2 8 eight refl;
  complete =
      λ no_read_fault no_write_fault.
      inr (record { answer = Says 2 []; is = refl; answered = refl });
  isolated = λ zero. unequal 2 0 zero refl;
  as_run = λ zero. unequal 2 0 zero refl;
  visits = λ zero. unequal 2 0 zero refl;
  call_visits = λ zero. unequal 2 0 zero refl;
  imported = λ zero. unequal 2 0 zero refl;
  ports = λ zero. unequal 2 0 zero refl;
  part = λ eight. unequal 2 8 eight refl;
  unrun = λ nine. unequal 2 9 nine refl;
}

usage-at : {F K P : Type 0} (looks : Type 0) (s : State F K P) → Outcome looks None s s 2
usage-at looks s = record {
  statuses = is_status Usage;
  usage = λ two. refl;
  asks = λ none. inl refl;
  untouched = λ none. refl;
  requests = refl;
  contents = refl;
  read = λ seven. unequal 2 7 seven refl;
  missing = λ lacks. absurd lacks;
  write = λ eight. unequal 2 8 eight refl;
  nothing = λ is. refl;
  counted_files = omega arith;
  counted_out = omega arith;
  kept = λ least eight nine. refl;
  apart = λ apart. refl;
  reads = λ reads. refl;
  differs = λ one. refl;
  known = usage-known s.contents s;
}

pub usage-outcome : {F K P : Type 0} (looks : Type 0) (asked : Option Ask) (s : State F K P)
    (status : ℕ) → asked ≡ None → status ≡ 2 → Outcome looks asked s s status
usage-outcome looks asked s status none two =
    let Of : Option Ask → Type 0 = λ o. Outcome looks o s s 2 in
    let At : ℕ → Type 0 = λ n. Outcome looks asked s s n in
    subst At (sym two) (subst Of (sym none) (usage-at looks s))

-- the outcome if memory ran out for the arguments
memory-known : {F K P : Type 0} (contents : Option FileMap) (asked : Option Ask) (s : State F K P) →
    IfSome contents (λ files. KnownOutcome files asked s s 9)
memory-known None asked s = tt
memory-known (Some files) asked s = record {
  said = λ seven eight nine. absurd (nine refl);
  prefix = λ eight. unequal 9 8 eight refl;
  complete = λ no_read_fault no_write_fault. inl refl;
  isolated = λ zero. unequal 9 0 zero refl;
  as_run = λ zero. unequal 9 0 zero refl;
  visits = λ zero. unequal 9 0 zero refl;
  call_visits = λ zero. unequal 9 0 zero refl;
  imported = λ zero. unequal 9 0 zero refl;
  ports = λ zero. unequal 9 0 zero refl;
  part = λ eight. unequal 9 8 eight refl;
  unrun = λ nine. unrun-same asked files s.rows;
}

memory-at : {F K P : Type 0} (looks : Type 0) (asked : Option Ask) (s : State F K P) →
    Outcome looks asked s s 9
memory-at looks asked s = record {
  statuses = is_status NoMemory;
  usage = λ two. unequal 9 2 two refl;
  asks = λ none. inr refl;
  untouched = λ none. refl;
  requests = unasked asked s.contents 9 s.requests refl;
  contents = refl;
  read = λ seven. unequal 9 7 seven refl;
  missing = λ lacks. inr (refl, refl);
  write = λ eight. unequal 9 8 eight refl;
  nothing = λ is. refl;
  counted_files = omega arith;
  counted_out = omega arith;
  kept = λ least eight nine. refl;
  apart = λ apart. refl;
  reads = λ reads. refl;
  differs = λ one. refl;
  known = memory-known s.contents asked s;
}

pub memory-outcome : {F K P : Type 0} (looks : Type 0) (asked : Option Ask) (s : State F K P)
    (status : ℕ) → status ≡ 9 → Outcome looks asked s s status
memory-outcome looks asked s status nine =
    let At : ℕ → Type 0 = λ n. Outcome looks asked s s n in
    subst At (sym nine) (memory-at looks asked s)
