use Rattle.std.proofs.Common.{Option, subst}
use Rattle.bound_calc.specs.Best.{Either, In, IsBest}
use Rattle.bound_calc.specs.Matrices.{entry}
use Rattle.bound_calc.specs.Propagation.{matrix_at, costs_on}
use Rattle.bound_calc.specs.declared.matrix.Matrix.{Matrix}
use Rattle.bound_calc.proofs.PassLaws.{none-entry}
use Rattle.call_bounds.specs.Summaries.{EndsAt}
use Rattle.call_bounds.proofs.AnyLaws.{any-more, any-none}
use Rattle.call_bounds.proofs.summary.deep.Goals as goal

pub loop-index-init : goal.loop-index-init
loop-index-init c = any-none none-entry

pub loop-index-preserved : goal.loop-index-preserved
loop-index-preserved c =
    let into = costs_on c.args.into.now in
    let at = c.args.at.now in
    any-more (λ k. EndsAt (into k) (matrix_at at k)) c.loop-index.index c.loop-index.invariant
    (subst (λ (w : Option Matrix). IsBest (entry c.end_at-deep.result)
    (Either (In (entry c.loop-index.deep)) (EndsAt w (matrix_at at c.loop-index.index))))
    c.at.ensures c.end_at-deep.ensures)
