use Rattle.std.proofs.Common.{◌∙◌, ap, arith, inl, inr, refl, subst, Some}
use Rattle.fp_ports.specs.PluggedPorts.{rows_of}
use Rattle.commands.specs.Status.{number_of}
use Rattle.commands.specs.declared.status.Status.TheVariants.{Ok, Differs, Read, Usage}
use Rattle.commands.specs.declared.status.Status.TheVariants.{Write}
use Rattle.commands.specs.declared.stop.CommandStop.{CommandStop}
use Rattle.flexpret_top.specs.Endings.{HasEnded}
use Rattle.flexpret_top.specs.Outcome.{state}
use Rattle.flexpret_top.proofs.Ending.{all-of, answered-of, prefix-of, is_status}
use Rattle.flexpret_top.proofs.Ending.{left-of, not-silent, nothing-of, part-of, same-cut-short}
use Rattle.flexpret_top.proofs.Ending.{some-none, status-of, unequal}
use Rattle.flexpret_top.proofs.Outcomes.{Theorems, known-of}
use Rattle.flexpret_top.proofs.Stopping.{difference-no_memory, no-difference}
use Rattle.flexpret_top.proofs.Stopping.{stop-said, stop-read, stop-write, stop-prefix}
use Rattle.flexpret_top.proofs.Stopping.{stop-complete, stop-leaves, stop-missing, stop-usage}
use Rattle.flexpret_top.proofs.Stopping.{write-no_memory}
use Rattle.flexpret_top.proofs.command.answer.Goals as goal

pub prepare-requires-clause-limits : goal.prepare-requires-clause-limits
prepare-requires-clause-limits g c = c.requires.limits

pub prepare-requires-clause-eight : goal.prepare-requires-clause-eight
prepare-requires-clause-eight g c = c.requires.eight

pub deliver-requires-clause-thread : goal.deliver-requires-clause-thread
deliver-requires-clause-thread g c = c.in-Ok.ensures.thread

pub deliver-requires-clause-eight : goal.deliver-requires-clause-eight
deliver-requires-clause-eight g c = c.prepare.ensures.eight

pub returns-in-Ok-deliver : goal.returns-in-Ok-deliver
returns-in-Ok-deliver g c =
    let before = state g.F.Files g.K.Sink c.args.files.now c.args.out.now c.args.ports.now
    (rows_of (λ b. (goal.Port-dyn g (b.vtable, b.value)).latched b.value)
    (λ b. (goal.Port-dyn g (b.vtable, b.value)).word_at b.value) c.args.ports.now.items) in
    let after = state g.F.Files g.K.Sink c.prepare.new.files c.deliver.new.out c.deliver.new.ports
    (rows_of (λ b. (goal.Port-dyn g (b.vtable, b.value)).latched b.value)
    (λ b. (goal.Port-dyn g (b.vtable, b.value)).word_at b.value) c.deliver.new.ports.items) in
    let theorems : Theorems = record {
      rules = c.theorems.ensures.rules;
      by_view = c.theorems.ensures.by_view;
      by_phases = c.theorems.ensures.by_phases;
      visits = c.theorems.ensures.visits;
      call_visits = c.theorems.ensures.call_visits;
      imported = c.theorems.ensures.imported;
    } in
    record {
      outcome = record {
        statuses = is_status Ok;
        usage = λ two. unequal 0 2 two refl;
        asks = λ none. some-none none;
        untouched = λ none. some-none none;
        requests = inr c.prepare.ensures.asked;
        contents = c.prepare.ensures.contents;
        read = λ seven. unequal 0 7 seven refl;
        missing = λ lacks. absurd (let e = c.in-Ok.ensures.missing lacks in let no : ⊥ = cc in no);
        write = λ eight. unequal 0 8 eight refl;
        nothing = λ is. not-silent 0 refl refl refl is;
        counted_files = c.prepare.ensures.counted;
        counted_out = c.deliver.ensures.counted;
        kept = λ least eight nine. absurd (omega (arith, least));
        apart =
            λ apart. c.deliver.ensures.apart (c.in-Ok.ensures.apart_from apart)
            ∙ c.prepare.ensures.apart apart;
        reads =
            λ reads. c.deliver.ensures.reads (c.in-Ok.ensures.reads_for reads)
            ∙ c.prepare.ensures.reads reads;
        differs = λ one. unequal 0 1 one refl;
        known =
            known-of theorems (g.F.Files.contents c.args.files.now) (Some c.args.ask.now) before
            after 0
            (λ seven eight nine. all-of (g.F.Files.contents c.args.files.now) c.args.ask.now _ _
            c.in-Ok.prepared (g.K.Sink.taken c.args.out.now) (g.K.Sink.taken c.deliver.new.out)
            c.in-Ok.ensures.ok c.in-Ok-deliver.ensures.ok)
            (λ eight. unequal 0 8 eight refl)
            (λ no_read_fault no_write_fault. answered-of (g.F.Files.contents c.args.files.now)
            c.args.ask.now _ _ c.in-Ok.prepared c.in-Ok.ensures.ok)
            (λ zero. left-of (g.F.Files.contents c.args.files.now) c.args.ask.now _ _ _
            c.in-Ok.prepared c.in-Ok.ensures.ok c.in-Ok-deliver.ensures.left)
            (λ eight. unequal 0 8 eight refl)
            (λ nine. unequal 0 9 nine refl);
      };
      eight = c.deliver.ensures.eight;
    }

pub returns-in-Err-deliver : goal.returns-in-Err-deliver
returns-in-Err-deliver g c =
    let before = state g.F.Files g.K.Sink c.args.files.now c.args.out.now c.args.ports.now
    (rows_of (λ b. (goal.Port-dyn g (b.vtable, b.value)).latched b.value)
    (λ b. (goal.Port-dyn g (b.vtable, b.value)).word_at b.value) c.args.ports.now.items) in
    let after = state g.F.Files g.K.Sink c.prepare.new.files c.deliver.new.out c.deliver.new.ports
    (rows_of (λ b. (goal.Port-dyn g (b.vtable, b.value)).latched b.value)
    (λ b. (goal.Port-dyn g (b.vtable, b.value)).word_at b.value) c.deliver.new.ports.items) in
    let theorems : Theorems = record {
      rules = c.theorems.ensures.rules;
      by_view = c.theorems.ensures.by_view;
      by_phases = c.theorems.ensures.by_phases;
      visits = c.theorems.ensures.visits;
      call_visits = c.theorems.ensures.call_visits;
      imported = c.theorems.ensures.imported;
    } in
    record {
      outcome = record {
        statuses = is_status Write;
        usage = λ two. unequal 8 2 two refl;
        asks = λ none. some-none none;
        untouched = λ none. some-none none;
        requests = inr c.prepare.ensures.asked;
        contents = c.prepare.ensures.contents;
        read = λ seven. unequal 8 7 seven refl;
        missing = λ lacks. absurd (let e = c.in-Ok.ensures.missing lacks in let no : ⊥ = cc in no);
        write = λ eight. c.in-Err-deliver.ensures.failed;
        nothing = λ is. not-silent 8 refl refl refl is;
        counted_files = c.prepare.ensures.counted;
        counted_out = c.deliver.ensures.counted;
        kept = λ least eight nine. absurd (eight refl);
        apart =
            λ apart. c.deliver.ensures.apart (c.in-Ok.ensures.apart_from apart)
            ∙ c.prepare.ensures.apart apart;
        reads =
            λ reads. c.deliver.ensures.reads (c.in-Ok.ensures.reads_for reads)
            ∙ c.prepare.ensures.reads reads;
        differs = λ one. unequal 8 1 one refl;
        known =
            known-of theorems (g.F.Files.contents c.args.files.now) (Some c.args.ask.now) before
            after 8
            (λ seven eight nine. absurd (eight refl))
            (λ eight. prefix-of (g.F.Files.contents c.args.files.now) c.args.ask.now _ _
            c.in-Ok.prepared (g.K.Sink.taken c.args.out.now) (g.K.Sink.taken c.deliver.new.out)
            c.in-Ok.ensures.ok c.in-Err-deliver.ensures.err)
            (λ no_read_fault no_write_fault.
            absurd (no_write_fault c.in-Err-deliver.ensures.failed))
            (λ zero. unequal 8 0 zero refl)
            (λ eight. part-of (g.F.Files.contents c.args.files.now) c.args.ask.now _ _ _
            c.in-Ok.prepared c.in-Ok.ensures.ok c.in-Err-deliver.ensures.part)
            (λ nine. unequal 8 9 nine refl);
      };
      eight = c.deliver.ensures.eight;
    }

pub returns-in-Err : goal.returns-in-Err
returns-in-Err g c =
    let before = state g.F.Files g.K.Sink c.args.files.now c.args.out.now c.args.ports.now
    (rows_of (λ b. (goal.Port-dyn g (b.vtable, b.value)).latched b.value)
    (λ b. (goal.Port-dyn g (b.vtable, b.value)).word_at b.value) c.args.ports.now.items) in
    let after = state g.F.Files g.K.Sink c.prepare.new.files c.end.new.out c.prepare.new.ports
    (rows_of (λ b. (goal.Port-dyn g (b.vtable, b.value)).latched b.value)
    (λ b. (goal.Port-dyn g (b.vtable, b.value)).word_at b.value) c.prepare.new.ports.items) in
    let theorems : Theorems = record {
      rules = c.theorems.ensures.rules;
      by_view = c.theorems.ensures.by_view;
      by_phases = c.theorems.ensures.by_phases;
      visits = c.theorems.ensures.visits;
      call_visits = c.theorems.ensures.call_visits;
      imported = c.theorems.ensures.imported;
    } in
    let contents = g.F.Files.contents c.args.files.now in
    let faults = g.F.Files.faults c.args.files.now in
    let faults' = g.F.Files.faults c.prepare.new.files in
    let out = g.K.Sink.faults c.args.out.now in
    let out' = g.K.Sink.faults c.end.new.out in
    let taken = g.K.Sink.taken c.args.out.now in
    let taken' = g.K.Sink.taken c.end.new.out in
    let ends = c.end.ensures.ends in
    let stop = c.in-Err.stop in
    let status = c.end.result in
    record {
      outcome = record {
        statuses = is_status status;
        usage =
            λ two. absurd (stop-usage stop status out out' taken taken' ends
            (status-of status Usage two));
        asks = λ none. some-none none;
        untouched = λ none. some-none none;
        requests = inr c.prepare.ensures.asked;
        contents = c.prepare.ensures.contents;
        read =
            λ seven. stop-read contents c.args.ask.now before.rows faults faults' stop
            status out out'
            taken taken' c.in-Err.ensures.stop ends (status-of status Read seven);
        missing =
            λ lacks. inl (ap number_of (stop-missing stop status out out' taken taken' ends
            (let e = c.in-Err.ensures.missing lacks in cc)));
        write =
            λ eight. stop-write stop status out out' taken taken' ends
            (status-of status Write eight);
        nothing =
            λ is. c.end.ensures.nothing (nothing-of status
            (stop-usage stop status out out' taken taken' ends) is);
        counted_files = c.prepare.ensures.counted;
        counted_out = c.end.ensures.counted;
        kept =
            λ least eight nine. (let Stops : CommandStop → Type 0 =
            λ s. HasEnded s out out' taken taken' status in
            c.in-Err.ensures.kept (λ none. nine (ap number_of (subst Stops none ends)))
            (no-difference stop status out out' taken taken' ends
            (λ e. let one = ap number_of e in omega (arith, one, least))
            (λ e. eight (ap number_of e))));
        apart = λ apart. c.prepare.ensures.apart apart;
        reads = λ reads. c.prepare.ensures.reads reads;
        differs =
            λ one. (elim (c.in-Err.ensures.others (difference-no_memory stop status out out' taken
            taken' ends (status-of status Differs one))) [
              | inl reads ↦ c.prepare.ensures.reads reads
              | inr same ↦
                  ap (λ ports. rows_of (λ b. (goal.Port-dyn g (b.vtable, b.value)).latched b.value)
                  (λ b. (goal.Port-dyn g (b.vtable, b.value)).word_at b.value) ports.items) same
            ]);
        known =
            known-of theorems contents (Some c.args.ask.now) before after (number_of status)
            (λ seven eight nine. stop-said contents c.args.ask.now before.rows faults faults' stop
            status out out' taken taken' c.in-Err.ensures.stop ends (λ e. seven (ap number_of e))
            (λ e. eight (ap number_of e)) (λ e. nine (ap number_of e)))
            (λ eight. stop-prefix contents c.args.ask.now before.rows faults faults' stop status out
            out' taken taken' c.in-Err.ensures.stop ends (status-of status Write eight))
            (λ no_read_fault no_write_fault. stop-complete contents c.args.ask.now
            before.rows faults
            faults' stop status out out' taken taken' c.in-Err.ensures.stop ends no_read_fault
            no_write_fault)
            (λ zero. stop-leaves contents c.args.ask.now before.rows after.rows stop status out out'
            taken taken' ends (status-of status Ok zero))
            (λ eight. same-cut-short contents c.args.ask.now before.rows after.rows
            (elim (c.in-Err.ensures.others (write-no_memory stop status out out' taken taken' ends
            (status-of status Write eight))) [
              | inl reads ↦ c.prepare.ensures.reads reads
              | inr same ↦
                  ap (λ ports. rows_of (λ b. (goal.Port-dyn g (b.vtable, b.value)).latched b.value)
                  (λ b. (goal.Port-dyn g (b.vtable, b.value)).word_at b.value) ports.items) same
            ]))
            (λ nine. c.in-Err.ensures.part);
      };
      eight = c.prepare.ensures.eight;
    }
