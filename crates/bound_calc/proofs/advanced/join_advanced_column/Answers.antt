use Rattle.std.proofs.Common.{◌≡◌, ℕ, ◌<◌, ◌≢◌, List, Option, Some, arith, below_more}
use Rattle.std.proofs.Common.{get_or-set_other, get_or-set_same, length, length-set, subst}
use Rattle.bound_calc.specs.Hops.{raised}
use Rattle.bound_calc.specs.Matrices.{cell}
use Rattle.bound_calc.proofs.advanced.join_advanced_column.Goals as goal

pub loop-p-preserved : goal.loop-p-preserved
loop-p-preserved c =
    let inv = c.loop-p.invariant in
    let lt : c.loop-p.p < length c.loop-p.onto.best = omega (arith, inv.count) in
    let Row : List (Option ℕ) → Type 0 = λ r. c.join_step.new.row
    ≡ raised (cell c.args.here.now c.loop-p.p c.args.column) (Some c.in-Some.hop) r in
    record {
      count = simp length-set inv.count;
      taken =
          below_more _ _
          (λ k h. let ne : k ≢ c.loop-p.p = omega arith in rw get_or-set_other (inv.taken k h))
          (rw get_or-set_same
          (subst Row (inv.rest c.loop-p.p (omega arith)) c.join_step.ensures.raised));
      long =
          below_more _ _ inv.long (subst (λ (r : List (Option ℕ)). length r ≡ 8)
          (inv.rest c.loop-p.p (omega arith)) c.join_step.ensures.long);
      rest =
          λ k h. let ne : k ≢ c.loop-p.p = omega arith in
          rw get_or-set_other (inv.rest k (omega arith));
    }
