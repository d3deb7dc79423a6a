use Rattle.std.proofs.Common.{ℕ, ◌+◌, ◌/◌, arith}
use Rattle.region_tree.specs.Walk.{IsOwn}
use Rattle.bound_calc.specs.Best.{In}
use Rattle.bound_calc.specs.Matrices.{entry}
use Rattle.bound_calc.proofs.PowerLaws.{once_more, squared}
use Rattle.bound_calc.proofs.powers.+power.Goals as goal

pub returns-then-times-eq0-2 : goal.returns-then-times-eq0-2
returns-then-times-eq0-2 t c =
    squared (IsOwn c.args.steps.now) (In (entry c.args.base.now))
    c.power-half.result c.chain-square.result (c.args.times / 2) c.args.times
    (omega arith) c.requires.lands c.power-half.ensures c.chain-square.ensures.best

pub returns : goal.returns
returns t c =
    let twice : ℕ = (c.args.times / 2) + (c.args.times / 2) in
    once_more (IsOwn c.args.steps.now) c.chain-square.result c.args.base.now c.chain.result twice
    c.args.times (omega arith) (squared (IsOwn c.args.steps.now) (In (entry c.args.base.now))
    c.power-half.result c.chain-square.result (c.args.times / 2) twice (omega arith)
    c.requires.lands c.power-half.ensures c.chain-square.ensures.best) c.chain.ensures.best
