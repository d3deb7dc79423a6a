-- Prepared texts and machines answer their command.
use Rattle.std.proofs.Common.{inl, inr, refl, ◌≡◌, ℕ, ◌≤◌, List, length, Option}
use Rattle.std.proofs.Common.{Some, None, Result, Ok, arith, ap, sym, subst, ◌∙◌}
use Rattle.std.specs.Prelude.{IfSome}
use Rattle.timer_unit.specs.Time.{most_cycles}
use Rattle.flexpret_top.specs.Command.{IsUnrun, HasLeftMachine}
use Rattle.flexpret_top.specs.Command as command
use Rattle.fp_io.specs.Content.{FileMap}
use Rattle.fp_ports.specs.PluggedPorts.{Row, row_of, rows_of}
use Rattle.std.proofs.lemmas.List.{length-map}
use Rattle.command_line.specs.declared.asked.Ask.TheVariants.{Run, Dump, Phases}
use Rattle.machine.specs.Feeding.{IsFedPrefix, fed_all}
use Rattle.machine.proofs.FedLemmas.{feeds}
use Rattle.machine.specs.WorldRelation.{Refines, PortsAfter, start_with_ports}
use Rattle.machine.specs.DumpedState.{seen}
use Rattle.fp_setup.specs.Settings.{Settings}
use Rattle.phase_log.specs.LoggedRuns.{StartsAs}
use Rattle.phase_log.specs.Text.{phases_text}
use Rattle.core_model.specs.Phases.{phases}
use Rattle.setup_model.specs.Start.{start}
use Rattle.trace_print.specs.Text.{text}
use Rattle.core_model.specs.World.{Start, events}
use Rattle.commands.specs.declared.program.Program.{Program}
use Rattle.flexpret_top.specs.declared.ready.Ready.{Ready}
use Rattle.flexpret_top.specs.declared.ready.Prepared.TheVariants as prepared
use Rattle.commands.specs.Answer.{Answer, then_by, ends}
use Rattle.flexpret_top.specs.Prepared.{IsReady, HasLeftPartOfRun, HasLeftRun, Prepares, Runs}
use Rattle.commands.specs.Program.{program}
use Rattle.flexpret_top.specs.Run.{start_of, trace_of, dump_of, phases_of}

-- the world of a program starts with the slots and modes of its setup
starts-as : (p : Program) (ports : List (Option Row)) (n : ℕ) (s : Settings) → p.setup ≡ s →
    StartsAs (start_of p ports n) s
unfolding start
starts-as p ports n s is =
    record { slots = ap (λ (s : Settings). s.slots) is; modes = ap (λ (s : Settings). s.modes) is }

pub ready-is : (contents : Option FileMap) (name : List ℕ)
    (before after : List (Option Row)) (p : Program) (r : Ready) →
    IfSome contents (λ files. program files name ≡ Ok p) → after ≡ fed_all p.setup before →
    p.setup ≡ r.setup → length before ≡ 8 → length after ≡ 8 → r.cycles ≤ most_cycles →
    ((ports : List (Option Row)) (n : ℕ) → length ports ≡ 8 →
    Refines (start_with_ports p.setup p.image ports n) 0 n r.machine ports) →
    IfSome contents (λ files. IsReady files name before after r)
ready-is None name before after p r is fed same eight eight' few refines = tt
ready-is (Some files) name before after p r is fed setup eight eight' few refines =
    let RefinesAt : Start → Type 0 = λ s. Refines s 0 r.cycles r.machine after in
    let same : start_with_ports p.setup p.image after r.cycles ≡ start_of p before r.cycles =
    ap (λ ports. start_with_ports p.setup p.image ports r.cycles) fed
    ∙ feeds p.setup p.image before r.cycles eight (omega arith) in
    record {
      made = p;
      is = is;
      fed = fed;
      refines = subst RefinesAt same (refines after r.cycles eight');
      starts = starts-as p before r.cycles r.setup setup;
    }

-- the ports after a run of a machine that was ready
ready-leaves : (files : FileMap) (name : List ℕ) (before after last : List (Option Row))
    (r : Ready) → IsReady files name before after r → HasLeftRun r after last →
    HasLeftMachine files name r.cycles before last
ready-leaves files name before after last r ready leaves =
    let s : Start = start_of ready.made before r.cycles in
    let After : List (Option Row) → Type 0 = λ ports. PortsAfter s r.cycles ports last in
    record {
      made = ready.made;
      is = ready.is;
      ports = subst After ready.fed (leaves s ready.refines ready.starts);
    }

-- the ports after a run that was stopped
ready-leaves-part : (files : FileMap) (name : List ℕ) (before after last : List (Option Row))
    (r : Ready) → IsReady files name before after r → HasLeftPartOfRun r after last →
    command.HasLeftMachineInPart files name r.cycles before last
ready-leaves-part files name before after last r ready leaves =
    let s : Start = start_of ready.made before r.cycles in
    let some = leaves s ready.refines ready.starts in
    let After : List (Option Row) → Type 0 = λ ports. PortsAfter s some.cycles ports last in
    record {
      made = ready.made;
      is = ready.is;
      cycles = some.cycles;
      within = some.within;
      ports = subst After ready.fed some.ports;
    }

-- a text of the program's world
ready-runs : (files : FileMap) (name : List ℕ) (before after : List (Option Row))
    (r : Ready) (contents : Start → List ℕ) → (ready : IsReady files name before after r) →
    Runs r after contents (contents (start_of ready.made before r.cycles))
ready-runs files name before after r contents ready = record {
  start = start_of ready.made before r.cycles;
  refines = ready.refines;
  starts = ready.starts;
  text_is = refl;
}

pub trace-prepares : (contents : Option FileMap) (name : List ℕ) (i n : ℕ)
    (before after : List (Option Row)) (r : Ready) → r.cycles ≡ n →
    IfSome contents (λ files. IsReady files name before after r) →
    IfSome contents (λ files. Prepares (Run name i n) files before after (prepared.Trace r i))
trace-prepares None name i n before after r same ready = tt
trace-prepares (Some files) name i n before after r same ready =
    let Answers : ℕ → Type 0 =
    λ n. Prepares (Run name i n) files before after (prepared.Trace r i) in
    subst Answers same (record {
      written = text (events (start_of ready.made before r.cycles) i r.cycles);
      delivers = ready-runs files name before after r (λ s. text (events s i r.cycles)) ready;
      is =
          sym (ap (λ (q : Result Program Answer). ends (then_by q (trace_of before i r.cycles)))
          ready.is);
      leaves = λ last. ready-leaves files name before after last r ready;
      leaves_part = λ last. ready-leaves-part files name before after last r ready;
    })

pub dump-prepares : (contents : Option FileMap) (name : List ℕ) (n : ℕ)
    (before after : List (Option Row)) (r : Ready) → r.cycles ≡ n →
    IfSome contents (λ files. IsReady files name before after r) →
    IfSome contents (λ files. Prepares (Dump name n) files before after (prepared.Dump r))
dump-prepares None name n before after r same ready = tt
dump-prepares (Some files) name n before after r same ready =
    let Answers : ℕ → Type 0 = λ n. Prepares (Dump name n) files before after (prepared.Dump r) in
    subst Answers same (record {
      written = seen (start_of ready.made before r.cycles) r.cycles;
      delivers = ready-runs files name before after r (λ s. seen s r.cycles) ready;
      is =
          sym
          (ap (λ (q : Result Program Answer). ends (then_by q (dump_of before r.cycles))) ready.is);
      leaves = λ last. ready-leaves files name before after last r ready;
      leaves_part = λ last. ready-leaves files name before after last r ready;
    })

pub phases-prepares : (contents : Option FileMap) (name : List ℕ) (n : ℕ)
    (before after : List (Option Row)) (r : Ready) → r.cycles ≡ n →
    IfSome contents (λ files. IsReady files name before after r) →
    IfSome contents (λ files. Prepares (Phases name n) files before after (prepared.Phases r))
phases-prepares None name n before after r same ready = tt
phases-prepares (Some files) name n before after r same ready =
    let Answers : ℕ → Type 0 =
    λ n. Prepares (Phases name n) files before after (prepared.Phases r) in
    subst Answers same (record {
      written = phases_text (phases (start_of ready.made before r.cycles) r.cycles);
      delivers = ready-runs files name before after r (λ s. phases_text (phases s r.cycles)) ready;
      is =
          sym (ap (λ (q : Result Program Answer). ends (then_by q (phases_of before r.cycles)))
          ready.is);
      leaves = λ last. ready-leaves files name before after last r ready;
      leaves_part = λ last. ready-leaves-part files name before after last r ready;
    })

pub ready-beside : {B : Type 0} → (latched : B → ℕ) (word_at : B → ℕ →
    ℕ) (contents : Option FileMap)
    (name : List ℕ) (before after : List (Option B)) (p : Program) (r : Ready) →
    IfSome contents (λ files. program files name ≡ Ok p) →
    rows_of latched word_at after ≡ fed_all p.setup (rows_of latched word_at before) →
    p.setup ≡ r.setup → length before ≡ 8 → length after ≡ 8 → r.cycles ≤ most_cycles →
    ((ports : List (Option Row)) (n : ℕ) → length ports ≡ 8 →
    Refines (start_with_ports p.setup p.image ports n) 0 n r.machine ports) →
    IfSome contents
    (λ files. IsReady files name (rows_of latched word_at before) (rows_of latched word_at after) r)
ready-beside latched word_at contents name before after p r is fed same eight eight' few refines =
    ready-is contents name (rows_of latched word_at before) (rows_of latched word_at after)
    p r is fed same (length-map before (row_of latched word_at) ∙ eight)
    (length-map after (row_of latched word_at) ∙ eight') few refines

-- without a run, the ports have some of the inputs of the setup
pub fed-part : (contents : Option FileMap) (name : List ℕ) (before after : List (Option Row))
    (p : Program) → IfSome contents (λ files. program files name ≡ Ok p) →
    IsFedPrefix p.setup before after → IfSome contents (λ files. IsUnrun files name before after)
fed-part None name before after p is fed = tt
fed-part (Some files) name before after p is fed = inr (record { made = p; is = is; fed = fed })

pub same-fed : (contents : Option FileMap) (name : List ℕ) (before after : List (Option Row)) →
    after ≡ before → IfSome contents (λ files. IsUnrun files name before after)
same-fed None name before after same = tt
same-fed (Some files) name before after same = inl same
