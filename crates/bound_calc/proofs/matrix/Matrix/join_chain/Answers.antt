use Rattle.std.proofs.Common.{◌≡◌, ℕ, ◌<◌, ◌≢◌, List, Option, None, [], arith}
use Rattle.std.proofs.Common.{below_more, get_or-set_other, get_or-set_same}
use Rattle.std.proofs.Common.{length, length-set, slice_index_or, subst}
use Rattle.bound_calc.specs.Matrices.{cell, larger_of, over}
use Rattle.bound_calc.proofs.Entries.{best-join-chain}
use Rattle.bound_calc.proofs.matrix.Matrix.join_chain.Goals as goal

pub loop-p-preserved : goal.loop-p-preserved
loop-p-preserved c =
    let inv = c.loop-p.invariant in
    let lt : c.loop-p.p < length c.loop-p.self.best = omega (arith, inv.count) in
    let Row : List (Option ℕ) → Type 0 = λ old. (q : ℕ) → q < 8 →
    slice_index_or c.take_row.new.onto q None ≡ larger_of (slice_index_or old q None)
    (over 8 (λ r. slice_index_or (slice_index_or c.args.first.now.best c.loop-p.p []) r None)
    (λ r. cell c.args.second.now r q)) in
    record {
      count = simp length-set inv.count;
      rows = below_more _ _
          (λ k h. let ne : k ≢ c.loop-p.p = omega arith in rw get_or-set_other (inv.rows k h))
          (rw get_or-set_same (subst Row (inv.rest c.loop-p.p (omega arith)) c.take_row.ensures));
      rest =
          λ k h. let ne : k ≢ c.loop-p.p = omega arith in
          rw get_or-set_other (inv.rest k (omega arith));
    }

pub returns : goal.returns
returns c =
    best-join-chain c.args.first.now c.args.second.now c.args.self.now c.loop-p.self
    (λ p q h k. c.loop-p.invariant.rows p (omega arith) q k)
