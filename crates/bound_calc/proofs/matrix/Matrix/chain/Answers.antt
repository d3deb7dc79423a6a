use Rattle.std.proofs.Common.{◌<◌, ◌≢◌, length, arith, get_or-set_other}
use Rattle.std.proofs.Common.{get_or-set_same, below_more, length-set}
use Rattle.bound_calc.specs.Matrices.{IsProduct}
use Rattle.bound_calc.proofs.Entries.{best-chain}
use Rattle.bound_calc.proofs.matrix.Matrix.chain.Goals as goal

pub loop-p-preserved : goal.loop-p-preserved
loop-p-preserved c =
    let lt : c.loop-p.p < length c.loop-p.best = omega (arith, c.loop-p.invariant.count) in
    record {
      count = simp length-set c.loop-p.invariant.count;
      rows =
          below_more _ _
          (λ k h. let ne : k ≢ c.loop-p.p = omega arith in
          rw get_or-set_other (c.loop-p.invariant.rows k h))
          (rw get_or-set_same (c.chain_row.ensures));
    }

pub returns : goal.returns
returns c =
    let cells : IsProduct c.args.self.now c.args.other.now (record { best = c.loop-p.best }) =
    λ p q h k. c.loop-p.invariant.rows p (omega arith) q k in
    record {
      largest = cells;
      best = best-chain c.args.self.now c.args.other.now (record { best = c.loop-p.best }) cells;
    }
