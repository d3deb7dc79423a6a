use Rattle.std.proofs.Common.{arith, refl}
use Rattle.bound_calc.proofs.Depth.{step-short}
use Rattle.bound_calc.proofs.PassLaws.{then-hops}
use Rattle.bound_calc.proofs.pass.skip.Goals as goal

pub then-frontier-requires-clause-short_row : goal.then-frontier-requires-clause-short_row
then-frontier-requires-clause-short_row c =
    λ p d q h. let z = step-short c.args.steps.now c.args.lag p d q c.requires.lag
    c.hops.ensures.frame (c.hops.ensures.hops.found p d q h) in omega arith

pub returns : goal.returns
returns c = record {
  frame = c.hops.ensures.frame;
  waiting = refl;
  base = refl;
  hops =
      then-hops c.args.steps.now c.args.lag c.args.frontier.now.hops.hops c.hops.result.now.hops
      c.then-frontier.result.hops c.hops.ensures.hops c.then-frontier.ensures.long.0
      c.then-frontier.ensures.long.1 c.then-frontier.ensures.each;
}
