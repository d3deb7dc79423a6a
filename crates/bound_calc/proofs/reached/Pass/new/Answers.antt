use Rattle.std.proofs.Common.{arith}
use Rattle.bound_calc.specs.Propagation.{costs_on}
use Rattle.bound_calc.proofs.FillLaws.{ready-whole}
use Rattle.bound_calc.proofs.PassLaws.{span-count}
use Rattle.bound_calc.proofs.reached.Pass.new.Goals as goal

pub fill-requires-clause-room : goal.fill-requires-clause-room
fill-requires-clause-room c = omega (
  arith,
  c.in_ok-frontier.ensures,
  span-count c.args.tree.now c.args.steps.now
      (costs_on c.args.word_costs.now) c.span_of.result.first c.span_of.result.last
      c.span_of.ensures.rules
      (c.span_of.ensures.span c.args.steps.now (costs_on c.args.word_costs.now)),
)

pub returns-clause-start : goal.returns-clause-start
returns-clause-start c =
    let ready = ready-whole c.args.tree.now c.args.steps.now (costs_on c.args.word_costs.now)
    c.in_ok-powers.powers.items c.span_of.ensures.rules c.requires.own
    c.in_ok-powers.ensures.filled in
    record {
      ready = ready;
      frontier = c.in_ok-begin.ensures (costs_on c.args.word_costs.now) ready.part 0 (omega arith);
    }
