use Rattle.std.proofs.Common.{arith, refl, rules}
use Rattle.std.proofs.lemmas.Result.{err_from_is_err_and}
use Rattle.machine.proofs.FeedLemmas.{fed_more, fed_none}
use Rattle.machine.proofs.feeding.feed_thread.Goals as goal

pub loop-input-init : goal.loop-input-init
loop-input-init g c = record { eight = c.requires.eight; rows = refl }

pub loop-input-preserved : goal.loop-input-preserved
loop-input-preserved g c = record {
  eight = c.feed_port.ensures.eight;
  rows =
      fed_more c.args.thread _ _ _ c.args.inputs.now c.loop-input.input-index _
      (omega arith) c.loop-input.invariant.rows c.in_ok-feed_port.ensures.rows;
}

pub returns-in_err-feed_port-clause-err : goal.returns-in_err-feed_port-clause-err
returns-in_err-feed_port-clause-err g c =
    let p = err_from_is_err_and c.from_residual.result c.from_residual.ensures.1 in
    rw p.1 (
      c.loop-input.input-index,
      fed_none c.args.thread _ _ _ c.in_err-feed_port.ensures.rows c.loop-input.invariant.rows,
    )

pub returns-in_err-feed_port-clause-eight : goal.returns-in_err-feed_port-clause-eight
returns-in_err-feed_port-clause-eight g c = c.feed_port.ensures.eight

pub returns-clause-eight : goal.returns-clause-eight
returns-clause-eight g c = c.loop-input.invariant.eight

pub offset_bounds-inputs-input-index : goal.offset_bounds-inputs-input-index
offset_bounds-inputs-input-index c = search rules
