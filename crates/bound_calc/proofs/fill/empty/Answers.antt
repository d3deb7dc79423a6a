use Rattle.std.proofs.Common.{◌≡◌, ◌+◌, None, arith, length, ap, subst, sym, ◌∙◌}
use Rattle.std.proofs.lemmas.List.{length_push}
use Rattle.bound_calc.specs.Propagation.{Powers, power_at}
use Rattle.bound_calc.proofs.FillLaws.{none-more}
use Rattle.bound_calc.proofs.fill.empty.Goals as goal

pub loop-index-preserved : goal.loop-index-preserved
loop-index-preserved c =
    let more : length c.push.new.self.items ≡ length c.loop-index.powers.items + 1 =
    ap length c.in_ok-push.ensures.items ∙ length_push c.loop-index.powers.items None in
    record {
      count = omega (arith, c.loop-index.invariant.count);
      none =
          λ k. subst (λ (p : Powers). power_at p k ≡ None) (sym c.in_ok-push.ensures.items)
          (none-more c.loop-index.powers.items c.loop-index.invariant.none k);
    }
