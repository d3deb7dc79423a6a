use Rattle.std.proofs.Common.{subst, sym}
use Rattle.std.specs.Option.{option_map}
use Rattle.bound_calc.specs.Matrices.{entry}
use Rattle.bound_calc.specs.Tops.{IsTop}
use Rattle.bound_calc.proofs.TopLaws.{top-in}
use Rattle.call_bounds.specs.Summaries.{EndsAt}
use Rattle.call_bounds.proofs.bound.end_by.Goals as goal

pub returns-in-None : goal.returns-in-None
returns-in-None c =
    subst (λ w. IsTop (EndsAt (option_map (λ m. m.now) w) (entry c.args.here.now)) c.args.most
    c.largest.result) (sym c.in-None.is) (top-in c.largest.ensures)

pub returns-in-Some : goal.returns-in-Some
returns-in-Some c =
    subst (λ w. IsTop (EndsAt (option_map (λ m. m.now) w) (entry c.args.here.now)) c.args.most
    c.largest_through.result) (sym c.in-Some.is) c.largest_through.ensures
