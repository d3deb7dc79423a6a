use Rattle.std.proofs.Common.{subst, sym}
use Rattle.std.specs.Option.{option_map}
use Rattle.bound_calc.specs.Best.{Either, In, IsBest}
use Rattle.bound_calc.specs.Matrices.{entry}
use Rattle.call_bounds.specs.Summaries.{EndsAt}
use Rattle.call_bounds.proofs.AnyLaws.{end-more}
use Rattle.call_bounds.proofs.summary.end_at.Goals as goal

pub returns-in-None : goal.returns-in-None
returns-in-None c =
    subst (λ w. IsBest (entry c.join-ended.result) (Either (In (entry c.args.onto.now))
    (EndsAt (option_map (λ m. m.now) w) (entry c.args.here.now))))
    (sym c.in-None.is) c.join-ended.ensures.best

pub returns-in-Some : goal.returns-in-Some
returns-in-Some c =
    subst (λ w. IsBest (entry c.join.result) (Either (In (entry c.args.onto.now))
    (EndsAt (option_map (λ m. m.now) w) (entry c.args.here.now)))) (sym c.in-Some.is)
    (end-more c.join-ended.ensures.best c.chain.ensures.best c.join.ensures.best)
