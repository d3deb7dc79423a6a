-- The search over the remaining threads has the result of the whole search.
use Rattle.std.proofs.Common.{◌≡◌, ◌<◌, find}
use Rattle.slot_scheduler.specs.Picking.{after_last, takes_donated}
use Rattle.slot_scheduler.proofs.Search.{threads_in, slept}
use Rattle.slot_scheduler.proofs.picking.Sched.search.Given as goal

abbrev pub invariant-loop-left : goal.invariant-loop-left
invariant-loop-left l = record {
  small : l.left < 256;
  found : find (takes_donated l.self l.now) (after_last l.last)
      ≡ find (slept l.self l.now) (threads_in l.last l.left);
}

abbrev pub decreases-loop-left : goal.decreases-loop-left
decreases-loop-left l = l.left
