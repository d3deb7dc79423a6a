use Rattle.std.proofs.Common.{subst, sym}
use Rattle.std.specs.Option.{option_map}
use Rattle.bound_calc.specs.Best.{In, IsBest, Then}
use Rattle.bound_calc.specs.Matrices.{entry}
use Rattle.bound_calc.specs.Propagation.{IsThrough}
use Rattle.bound_calc.proofs.pass.apply_rounds.Goals as goal

pub returns-in-Some : goal.returns-in-Some
returns-in-Some c =
    subst (λ o. IsThrough (option_map (λ b. b.value) o) c.args.here.now c.chain.result)
    (sym c.in-Some.is)
    (subst (λ m. IsBest (entry c.chain.result) (Then (In (entry c.args.here.now)) (In (entry m))))
    c.deref.ensures c.chain.ensures.best)
