use Rattle.std.proofs.Common.{arith}
use Rattle.call_bounds.proofs.DoneLaws.{known-all, known-none, summaries-none}
use Rattle.call_bounds.proofs.summary.summaries_of.Goals as goal

pub loop-rank-init : goal.loop-rank-init
loop-rank-init c = record {
  all =
      summaries-none c.args.tree.now c.args.steps.now c.function_count-count.result
      c.in_ok-done.done.through.items c.in_ok-done.done.deep.items
      c.function_count-count.ensures.listing c.function_count-count.ensures.callable
      c.function_count-count.ensures.value c.in_ok-done.ensures.0 c.in_ok-done.ensures.1;
  known =
      known-none c.args.tree.now c.args.steps.now c.ranks-ranks.result.now
      c.in_ok-done.done.through.items c.in_ok-done.done.deep.items;
}

pub returns-clause-known : goal.returns-clause-known
returns-clause-known c =
    known-all c.args.tree.now c.args.steps.now c.ranks-ranks.result.now c.loop-rank.rank
    c.loop-rank.done.through.items c.loop-rank.done.deep.items c.ranks-ranks.ensures
    (omega (arith, c.loop-rank-test.false, c.function_count-count.ensures.value))
    c.loop-rank.invariant.known

pub overflow_add-rank-end : goal.overflow_add-rank-end
overflow_add-rank-end c = omega (arith, c.function_count-count.ensures.few)

pub summarise_rank-requires-clause-ranks : goal.summarise_rank-requires-clause-ranks
summarise_rank-requires-clause-ranks c = c.ranks-ranks.ensures

pub summarise_rank-requires-clause-done : goal.summarise_rank-requires-clause-done
summarise_rank-requires-clause-done c = c.loop-rank.invariant.all

pub summarise_rank-requires-clause-below : goal.summarise_rank-requires-clause-below
summarise_rank-requires-clause-below c = c.loop-rank.invariant.known

pub loop-rank-preserved : goal.loop-rank-preserved
loop-rank-preserved c = record {
  all = c.in_ok-summarise_rank.ensures.done;
  known = c.in_ok-summarise_rank.ensures.known;
}

pub returns-clause-done : goal.returns-clause-done
returns-clause-done c = c.loop-rank.invariant.all
