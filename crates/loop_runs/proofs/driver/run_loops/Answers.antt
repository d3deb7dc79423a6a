use Rattle.std.proofs.Common.{ℕ, ◌+◌, ◌*◌, ◌/◌, ◌≤◌, ◌^◌, List, subst, arith}
use Rattle.std.proofs.Math.Nat.{div-mul-le_self}
use Rattle.std.specs.Io.KnownBytes.{Appends}
use Rattle.rv_exec.specs.declared.outcome.Event.{Event}
use Rattle.trace_print.specs.Text.{text}
use Rattle.loop_runs.specs.Plants.{responses_of}
use Rattle.std.proofs.lemmas.Result.{err_from_is_err_and}
use Rattle.loop_runs.proofs.Runs.{looped-at, next-multiple, ran-step, stopped-prefix}
use Rattle.loop_runs.proofs.driver.run_loops.Goals as goal

pub continue_loops-requires-clause-limit : goal.continue_loops-requires-clause-limit
continue_loops-requires-clause-limit g c =
    omega (arith, div-mul-le_self c.args.cycles c.args.every, c.requires.start, c.requires.limit)

pub run_on-requires-clause-begun : goal.run_on-requires-clause-begun
run_on-requires-clause-begun g c = omega (
  arith,
  div-mul-le_self c.args.cycles c.args.every,
  c.requires.start,
  c.in_ok-continue_loops.ensures.at,
)

pub returns-clause-looped : goal.returns-clause-looped
returns-clause-looped g c =
    λ s n reach low st.
    let every : ℕ = c.args.every in
    let end : ℕ = c.args.cycles in
    let i : ℕ = c.args.thread in
    let first = responses_of g.P.Plant.response
    c.args.plants.now.items in
    let contents = g.K.Sink.taken c.args.out.now in
    let most : end / every * every ≤ end = div-mul-le_self end every in
    let begins = c.in_ok-begin_loops.ensures.looped every s n i contents c.requires.some low st in
    let looped = c.in_ok-continue_loops.ensures.looped first s n 0 contents low
    (omega (arith, c.requires.start, most, reach)) (omega (arith, c.requires.start)) begins in
    let done = ran-step first _ every s n (0 + end / every) c.continue_loops.new.machine.at
    end i c.continue_loops.new.machine c.run_on.new.self _ _ contents
    (g.K.Sink.taken c.continue_loops.new.out) (g.K.Sink.taken c.run_on.new.out) looped
    (omega (arith, c.in_ok-continue_loops.ensures.at, c.requires.start, most))
    reach (next-multiple end every c.requires.some)
    (λ run. c.in_ok-run_on.ensures.ok _ n _ contents reach run) in
    looped-at first _ every s n (0 + end / every) (end / every) end end i c.run_on.new.self
    _ contents _
    (omega arith) (omega arith) done

pub returns-clause-text : goal.returns-clause-text
returns-clause-text g c =
    λ s st.
    (returns-clause-looped g c s c.args.cycles (omega arith)
    (omega (arith, c.requires.limit)) st).put

pub returns-clause-alone : goal.returns-clause-alone
returns-clause-alone g c =
    λ s st p quiet.
    subst (λ (es : List Event).
    Appends (g.K.Sink.taken c.args.out.now) (g.K.Sink.taken c.run_on.new.out) (text es))
    (c.runs_alone_in_loops.ensures _ c.args.every s c.args.cycles c.args.thread c.args.cycles p
    (omega arith) quiet) (returns-clause-text g c s st)

pub returns-clause-unpermitted : goal.returns-clause-unpermitted
returns-clause-unpermitted g c =
    λ s st p free.
    subst (λ (es : List Event).
    Appends (g.K.Sink.taken c.args.out.now) (g.K.Sink.taken c.run_on.new.out) (text es))
    (c.runs_alone_without_permits.ensures _ c.args.every s c.args.cycles c.args.thread c.args.cycles
    p (omega arith) free) (returns-clause-text g c s st)

pub returns-clause-phased : goal.returns-clause-phased
returns-clause-phased g c =
    λ s st p never kept.
    subst (λ (es : List Event).
    Appends (g.K.Sink.taken c.args.out.now) (g.K.Sink.taken c.run_on.new.out) (text es))
    (c.runs_by_phases_in_loops.ensures _ c.args.every s c.args.cycles c.args.thread c.args.cycles p
    (omega arith) never kept) (returns-clause-text g c s st)

pub returns-in_err-continue_loops-clause-stopped : goal.returns-in_err-continue_loops-clause-stopped
returns-in_err-continue_loops-clause-stopped g c =
    let p = err_from_is_err_and c.from_residual-in_err-continue_loops.result
    c.from_residual-in_err-continue_loops.ensures.1 in
    rw p.1 (λ s st. let every : ℕ = c.args.every in
    let n : ℕ = c.args.cycles in
    let first = responses_of g.P.Plant.response
    c.args.plants.now.items in
    let contents = g.K.Sink.taken c.args.out.now in
    let low : n ≤ 2 ^ 64 = omega (arith, c.requires.limit) in
    let most : n / every * every ≤ n = div-mul-le_self n every in
    let begins = c.in_ok-begin_loops.ensures.looped every
    s n c.args.thread contents c.requires.some low st in
    c.in_err-continue_loops.ensures.stopped first s n 0 contents low
    (omega (arith, c.requires.start, most)) (omega (arith, c.requires.start)) begins)

pub returns-in_err-run_on-clause-stopped : goal.returns-in_err-run_on-clause-stopped
returns-in_err-run_on-clause-stopped g c =
    let p = err_from_is_err_and c.from_residual-in_err-run_on.result
    c.from_residual-in_err-run_on.ensures.1 in
    rw p.1 (λ s st.
    let every : ℕ = c.args.every in
    let n : ℕ = c.args.cycles in
    let i : ℕ = c.args.thread in
    let first = responses_of g.P.Plant.response
    c.args.plants.now.items in
    let contents = g.K.Sink.taken c.args.out.now in
    let low : n ≤ 2 ^ 64 = omega (arith, c.requires.limit) in
    let most : n / every * every ≤ n = div-mul-le_self n every in
    let begins = c.in_ok-begin_loops.ensures.looped every s n i contents c.requires.some low st in
    let looped = c.in_ok-continue_loops.ensures.looped first s n 0 contents low
    (omega (arith, c.requires.start, most)) (omega (arith, c.requires.start)) begins in
    stopped-prefix c.events_grow.ensures first _ every s n (0 + n / every)
    c.continue_loops.new.machine.at n i c.continue_loops.new.machine c.run_on.new.self _ _ contents
    (g.K.Sink.taken c.continue_loops.new.out) (g.K.Sink.taken c.run_on.new.out) looped
    (omega (arith, c.in_ok-continue_loops.ensures.at, c.requires.start, most))
    (omega arith) (next-multiple n every c.requires.some) c.run_on.ensures.end
    (λ run. c.in_err-run_on.ensures.err _ n _ contents (omega arith) run))
