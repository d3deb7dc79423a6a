use Rattle.std.proofs.Common.{◌+◌, ◌≤◌, arith, refl}
use Rattle.pipe_model.proofs.Events.{grows}
use Rattle.machine.proofs.OnResults.{never_fails}
use Rattle.selfrun.proofs.TallyLemmas.{at_start, count_ends}
use Rattle.selfrun.proofs.running.tallies.Goals as goal

pub returns : goal.returns
returns g c s st =
    let within : c.args.cycles ≤ c.args.cycles + 3 = omega arith in
    let done = never_fails c.run_with-done.result c.run_with-done.ensures.failed
    c.run_with-done.ensures.ok s c.args.cycles within
    (at_start s c.args.cycles c.args.machine.now _ c.requires.start st) in
    count_ends grows s c.args.machine.now.at c.args.cycles _ c.run_with-done.new.observer _ _
    c.requires.start refl c.requires.limit done.1
