use Rattle.std.proofs.Common.{◌<◌, ◌≢◌, ◌∙◌, None, ap, arith, below_more, get_or-set_other}
use Rattle.std.proofs.Common.{get_or-set_same, length, length-set, slice_index_or}
use Rattle.bound_calc.specs.Matrices.{larger_of}
use Rattle.bound_calc.proofs.Entries.{none-sum}
use Rattle.bound_calc.proofs.matrix.take_sums.Goals as goal

pub returns-in_default : goal.returns-in_default
returns-in_default c =
    λ q h. none-sum c.args.first (slice_index_or c.args.onto.now q None)
    (slice_index_or c.args.second.now q None) c.in_default.not-Some

pub loop-q-preserved : goal.loop-q-preserved
loop-q-preserved c =
    let inv = c.loop-q.invariant in
    let lt : c.loop-q.q < length c.loop-q.onto = omega (arith, inv.count) in
    record {
      count = simp length-set inv.count;
      taken =
          below_more _ _
          (λ k h. let ne : k ≢ c.loop-q.q = omega arith in rw get_or-set_other (inv.taken k h))
          (rw get_or-set_same (c.take_in.ensures
          ∙ (ap (λ o. larger_of o c.sum.result) (inv.rest c.loop-q.q (omega arith))
          ∙ ap (larger_of (slice_index_or c.args.onto.now c.loop-q.q None)) c.sum.ensures)));
      rest =
          λ k h. let ne : k ≢ c.loop-q.q = omega arith in
          rw get_or-set_other (inv.rest k (omega arith));
    }
