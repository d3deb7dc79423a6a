use Rattle.std.proofs.Common.{◌≤◌}
use Rattle.std.specs.Prelude.{flat_map}
use Rattle.std.specs.List.{range_with_len}
use Rattle.std.specs.Io.KnownBytes.{Appends}
use Rattle.selfrun.specs.Text.{tally_at, tally_line}
use Rattle.selfrun.proofs.running.Selfrun.put.Given as goal

abbrev pub invariant-loop-k : goal.invariant-loop-k
invariant-loop-k g l = record {
  contents : Appends (g.K.Sink.taken l.initial.out) (g.K.Sink.taken l.out)
      (flat_map (λ k. tally_line k (tally_at l.self.tallies k)) (range_with_len 0 l.k));
  counted : g.K.Sink.faults l.initial.out ≤ g.K.Sink.faults l.out;
}
