use Rattle.bound_calc.proofs.FillLaws.{filled-more, filled-same, ready-body}
use Rattle.bound_calc.proofs.fill.fill_word.Goals as goal
use Rattle.bound_calc.specs.Propagation.{costs_on}

pub returns-in_default-clause-filled : goal.returns-in_default-clause-filled
returns-in_default-clause-filled c =
    filled-same c.args.tree.now c.args.steps.now (costs_on c.args.word_costs.now) c.args.index
    c.args.powers.now c.loop_from.ensures.rules c.in_default.ensures.found c.requires.filled

pub rounds-requires-clause-ready : goal.rounds-requires-clause-ready
rounds-requires-clause-ready c =
    let is = c.in-Some.ensures.found in
    ready-body c.args.tree.now c.args.steps.now (costs_on c.args.word_costs.now) c.in-Some.j
    c.args.index
    c.args.powers.now c.loop_from.ensures.rules c.requires.own is.0 is.1 is.2 c.requires.filled

pub returns-clause-filled : goal.returns-clause-filled
returns-clause-filled c =
    let is = c.in-Some.ensures.found in
    filled-more c.args.tree.now c.args.steps.now
    (costs_on c.args.word_costs.now) c.in-Some.j c.args.index c.args.powers.now c.in_ok-new.field-0
    c.in_ok-power.power c.loop_from.ensures.rules c.requires.own is.0 is.1 is.2 c.requires.index
    c.requires.filled c.in_ok-new.ensures.ok c.in_ok-power.ensures.rounds
