use Rattle.std.proofs.Common.{◌+◌, ◌≤◌, arith}
use Rattle.flexpret_top.proofs.Delivering.{gone-after}
use Rattle.flexpret_top.proofs.deliver.go.Goals as goal

pub returns-clause-gone : goal.returns-clause-gone
returns-clause-gone g c =
    let within : c.args.cycles ≤ c.args.cycles + 3 = omega arith in
    λ s st. gone-after s c.args.cycles _ c.args.machine.now c.run_unseen.new.self _ c.requires.start
    st (c.run_unseen.ensures.relation s c.args.cycles within) c.run_unseen.ensures.words
