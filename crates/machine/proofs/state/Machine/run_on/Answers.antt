-- A run puts the lines of a thread's events.
use Rattle.std.proofs.Common.{ℕ, ◌+◌, ◌≤◌, arith}
use Rattle.std.proofs.Math.Nat.{le_trans}
use Rattle.pipe_model.proofs.Events.{grows}
use Rattle.machine.proofs.LineObserving.{lines_run, lines_stop}
use Rattle.machine.proofs.OnResults.{map_ok, map_err}
use Rattle.machine.proofs.state.Machine.run_on.Goals as goal

within_more : (end n : ℕ) → end ≤ n → end ≤ n + 3
within_more end n within = omega arith

pub returns-clause-ok : goal.returns-clause-ok
returns-clause-ok g c =
    map_ok c.run_with.result _ _ c.run_with.ensures.ok (λ more s n first prior within run.
    let done = more s n (within_more c.args.end n within) run.refines in
    lines_run grows s c.args.self.now.at c.args.end n c.args.thread first c.args.self.now
    c.run_with.new.self _ _ c.new.result c.run_with.new.observer prior
    (g.K.Sink.taken c.args.out.now) (g.K.Sink.taken c.run_with.new.out) c.new.ensures run done.0
    done.1 c.run_with.ensures.words)

pub returns-clause-err : goal.returns-clause-err
returns-clause-err g c =
    map_err c.run_with.result _ _ c.run_with.ensures.err (λ more s n first prior within run.
    let done = more s n (within_more c.args.end n within) run.refines in
    lines_stop grows s c.args.self.now.at n c.args.thread first c.args.self.now
    c.run_with.new.self _ _ c.new.result prior
    (g.K.Sink.taken c.args.out.now) (g.K.Sink.taken c.run_with.new.out) c.new.ensures
    (le_trans c.run_with.ensures.end within) run done.0 done.1 c.run_with.ensures.words)
