-- A run is one that continues from cycle 0.
use Rattle.std.proofs.Math.Nat.{le_refl}
use Rattle.machine.proofs.OnResults.{map_ok, map_err}
use Rattle.machine.proofs.SleepLemmas.{run_begins_at}
use Rattle.machine.proofs.state.Machine.run.Goals as goal

pub returns-clause-ok : goal.returns-clause-ok
returns-clause-ok g c =
    map_ok c.run_on.result _ _ c.run_on.ensures.ok
    (λ more s st. more s c.args.n _ (g.K.Sink.taken c.args.out.now) (le_refl c.args.n)
    (run_begins_at s c.args.n c.args.thread c.args.self.now _
    (g.K.Sink.taken c.args.out.now) c.requires.start st))

pub returns-clause-err : goal.returns-clause-err
returns-clause-err g c =
    map_err c.run_on.result _ _ c.run_on.ensures.err
    (λ more s st. more s c.args.n _ (g.K.Sink.taken c.args.out.now) (le_refl c.args.n)
    (run_begins_at s c.args.n c.args.thread c.args.self.now _
    (g.K.Sink.taken c.args.out.now) c.requires.start st))
