use Rattle.std.proofs.Common.{◌≡◌, ℕ, ◌<◌, None, length, slice_index_or}
use Rattle.bound_calc.specs.Hops.{hop_chain}
use Rattle.bound_calc.proofs.hop.HopRow.then.Given as goal

abbrev pub invariant-loop-p : goal.invariant-loop-p
invariant-loop-p l = record {
  count : length l.hops ≡ 8;
  each : (k : ℕ) → k < l.p →
      slice_index_or l.hops k None ≡ hop_chain (slice_index_or l.self.hops k None) l.row.hops;
}
