use Rattle.std.proofs.Common.{◌≡◌, ℕ, ◌<◌, length}
use Rattle.std.specs.Prelude.{slice_index_or}
use Rattle.selfrun.specs.Folds.{pair_sum}
use Rattle.selfrun.proofs.hex_pairs.pair_sums.Given as goal

abbrev pub invariant-loop-byte : goal.invariant-loop-byte
invariant-loop-byte l = record {
  count : length l.sums ≡ 256;
  set : (byte : ℕ) → byte < l.byte → slice_index_or l.sums byte 0 ≡ pair_sum byte;
}
