use Rattle.std.proofs.Common.{◌≡◌, ◌∙◌, ◌≤◌, ◌^◌, arith, length}
use Rattle.std.proofs.lemmas.List.{length-map}
use Rattle.fp_ports.specs.PluggedPorts.{rows_of}
use Rattle.setup_model.specs.Start.{start}
use Rattle.closed_runs.proofs.Written.{none-put, on-error, starts, written}
use Rattle.closed_runs.proofs.run_setup_loops.Goals as goal

pub returns-in_err-machine-clause-stopped : goal.returns-in_err-machine-clause-stopped
returns-in_err-machine-clause-stopped g c = on-error c.from_residual.result (none-put _ _)

pub returns-in_err-feed_inputs-clause-stopped : goal.returns-in_err-feed_inputs-clause-stopped
returns-in_err-feed_inputs-clause-stopped g c =
    on-error c.from_residual-in_err-feed_inputs.result (none-put _ _)

pub returns-in_err-run_loops-clause-stopped : goal.returns-in_err-run_loops-clause-stopped
returns-in_err-run_loops-clause-stopped g c =
    let rows = rows_of (λ b. (goal.Port-dyn g (b.vtable, b.value)).latched b.value)
    (λ b. (goal.Port-dyn g (b.vtable, b.value)).word_at b.value) c.args.ports.now.items in
    let fed = rows_of (λ b. (goal.Port-dyn g (b.vtable, b.value)).latched b.value)
    (λ b. (goal.Port-dyn g (b.vtable, b.value)).word_at b.value) c.feed_inputs.new.ports.items in
    let eight : length c.args.ports.now.items ≡ 8 =
    omega (arith, c.args.ports.now.ok.0, c.requires.eight) in
    let also : length c.feed_inputs.new.ports.items ≡ 8 =
    omega (arith, c.feed_inputs.new.ports.ok.0, c.in_ok-feed_inputs.ensures.eight) in
    let low : c.args.cycles ≤ 2 ^ 64 = omega (arith, c.requires.limit) in
    on-error c.from_residual-in_err-run_loops.result
    (c.in_err-run_loops.ensures.stopped (start c.args.setup.now c.args.image.now rows c.args.cycles)
    (starts c.feeds_the_start.ensures c.args.setup.now c.args.image.now
    c.in_ok-machine.machine rows fed c.args.cycles (length-map c.args.ports.now.items _ ∙ eight)
    (length-map c.feed_inputs.new.ports.items _ ∙ also) low
    c.in_ok-feed_inputs.ensures.ok c.in_ok-machine.ensures.refines))

pub returns-clause-put : goal.returns-clause-put
returns-clause-put g c =
    let rows = rows_of (λ b. (goal.Port-dyn g (b.vtable, b.value)).latched b.value)
    (λ b. (goal.Port-dyn g (b.vtable, b.value)).word_at b.value) c.args.ports.now.items in
    let fed = rows_of (λ b. (goal.Port-dyn g (b.vtable, b.value)).latched b.value)
    (λ b. (goal.Port-dyn g (b.vtable, b.value)).word_at b.value) c.feed_inputs.new.ports.items in
    let eight : length c.args.ports.now.items ≡ 8 =
    omega (arith, c.args.ports.now.ok.0, c.requires.eight) in
    let also : length c.feed_inputs.new.ports.items ≡ 8 =
    omega (arith, c.feed_inputs.new.ports.ok.0, c.in_ok-feed_inputs.ensures.eight) in
    let low : c.args.cycles ≤ 2 ^ 64 = omega (arith, c.requires.limit) in
    written c.traces_alone_in_loop.ensures c.keeps_loops_quiet.ensures
    c.traces_by_phases_in_loop.ensures _ _ c.args.every c.args.thread c.args.cycles _ _
    (c.in_ok-run_loops.ensures.text (start c.args.setup.now c.args.image.now rows c.args.cycles)
    (starts c.feeds_the_start.ensures c.args.setup.now c.args.image.now
    c.in_ok-machine.machine rows fed c.args.cycles (length-map c.args.ports.now.items _ ∙ eight)
    (length-map c.feed_inputs.new.ports.items _ ∙ also) low
    c.in_ok-feed_inputs.ensures.ok c.in_ok-machine.ensures.refines))

pub returns-clause-looped : goal.returns-clause-looped
returns-clause-looped g c =
    let rows = rows_of (λ b. (goal.Port-dyn g (b.vtable, b.value)).latched b.value)
    (λ b. (goal.Port-dyn g (b.vtable, b.value)).word_at b.value) c.args.ports.now.items in
    let fed = rows_of (λ b. (goal.Port-dyn g (b.vtable, b.value)).latched b.value)
    (λ b. (goal.Port-dyn g (b.vtable, b.value)).word_at b.value) c.feed_inputs.new.ports.items in
    let eight : length c.args.ports.now.items ≡ 8 =
    omega (arith, c.args.ports.now.ok.0, c.requires.eight) in
    let also : length c.feed_inputs.new.ports.items ≡ 8 =
    omega (arith, c.feed_inputs.new.ports.ok.0, c.in_ok-feed_inputs.ensures.eight) in
    λ n reach low.
    c.in_ok-run_loops.ensures.looped (start c.args.setup.now c.args.image.now rows n) n reach low
    (starts c.feeds_the_start.ensures c.args.setup.now c.args.image.now
    c.in_ok-machine.machine rows fed n (length-map c.args.ports.now.items _ ∙ eight)
    (length-map c.feed_inputs.new.ports.items _ ∙ also) low
    c.in_ok-feed_inputs.ensures.ok c.in_ok-machine.ensures.refines)
