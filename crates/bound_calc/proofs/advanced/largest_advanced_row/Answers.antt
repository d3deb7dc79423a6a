use Rattle.std.proofs.Common.{◌≡◌, arith, refl, inl, subst}
use Rattle.bound_calc.specs.Hops.{IsFarthest}
use Rattle.bound_calc.proofs.AdvanceLaws.{farthest-more}
use Rattle.bound_calc.proofs.advanced.largest_advanced_row.Goals as goal

pub loop-r-init : goal.loop-r-init
loop-r-init c =
    record { stays = omega arith; upper = λ r x d q lt is h. absurd (omega arith); met = inl refl }

pub loop-r-preserved : goal.loop-r-preserved
loop-r-preserved c =
    farthest-more c.args.row.now c.args.hops.now.hops c.loop-r.r c.args.most c.loop-r.farthest
    c.larger_advanced-farthest.result c.loop-r.invariant c.larger_advanced-farthest.ensures.stays
    c.larger_advanced-farthest.ensures.upper c.larger_advanced-farthest.ensures.met

pub returns : goal.returns
returns c =
    let all : c.loop-r.r ≡ 8 = omega arith in
    subst (λ n. IsFarthest c.args.row.now c.args.hops.now.hops n c.args.most c.loop-r.farthest) all
    c.loop-r.invariant
