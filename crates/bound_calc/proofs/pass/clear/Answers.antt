use Rattle.std.proofs.Common.{◌≡◌, ◌<◌, ◌⊎◌, arith, None, length-set, ◌∙◌}
use Rattle.bound_calc.proofs.PassLaws.{cleared}
use Rattle.bound_calc.proofs.pass.clear.Goals as goal

pub loop-index-preserved : goal.loop-index-preserved
loop-index-preserved c =
    let w = c.loop-index.frontier.waiting.items in
    record {
      none =
          λ k a b.
          cleared w k c.loop-index.index (omega (arith, c.loop-index.invariant.count, c.requires))
          (let z : (k < c.loop-index.index) ⊎ (k ≡ c.loop-index.index) = grind arith in z)
          (λ h. c.loop-index.invariant.none k a h);
      count = length-set w c.loop-index.index None ∙ c.loop-index.invariant.count;
    }
