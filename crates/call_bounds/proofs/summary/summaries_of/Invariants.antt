use Rattle.std.proofs.Common.{◌<◌}
use Rattle.call_bounds.specs.Listing.{rank_at}
use Rattle.call_bounds.specs.Summaries.{AreKnown, AreSummaries}
use Rattle.call_bounds.proofs.summary.summaries_of.Given as goal

abbrev pub invariant-loop-rank : goal.invariant-loop-rank
invariant-loop-rank l = record {
  all : AreSummaries l.tree l.steps l.done.through.items l.done.deep.items;
  known : AreKnown l.tree l.steps
      (λ k. rank_at l.ranks k < l.rank) l.done.through.items l.done.deep.items;
}
