use Rattle.std.proofs.Common.{◌<◌}
use Rattle.call_bounds.specs.Summaries.{AreKnown, AreSummaries}
use Rattle.call_bounds.proofs.DoneLaws.{Before}
use Rattle.call_bounds.proofs.summary.summarise_rank.Given as goal

abbrev pub invariant-loop-number : goal.invariant-loop-number
invariant-loop-number l = record {
  some : 0 < l.number;
  all : AreSummaries l.tree l.steps l.done.through.items l.done.deep.items;
  known : AreKnown l.tree l.steps
      (Before l.ranks l.rank l.number) l.done.through.items l.done.deep.items;
}
