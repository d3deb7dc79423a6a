use Rattle.std.proofs.Common.{◌≡◌, arith, refl, ap, ◌∙◌}
use Rattle.std.proofs.lemmas.Result.{err_from_is_err_and}
use Rattle.machine.specs.Feeding.{fed_first}
use Rattle.machine.proofs.FeedLemmas.{turn, turn_prefix}
use Rattle.machine.proofs.feeding.feed_inputs.Goals as goal

pub loop-thread-init : goal.loop-thread-init
loop-thread-init g c = record { eight = c.requires; rows = refl }

pub loop-thread-preserved : goal.loop-thread-preserved
loop-thread-preserved g c = record {
  eight = c.feed_thread.ensures.eight;
  rows =
      turn c.args.setup.now _ _ _ c.loop-thread.thread c.setup.inside.threads c.get.result.now
      c.as_slice.result.now (ap (λ s. s.threads) c.setup.view_is) c.get.ensures.value
      c.as_slice.ensures.value c.loop-thread.invariant.rows c.in_ok-feed_thread.ensures.ok;
}

pub returns-in_err-feed_thread-clause-err : goal.returns-in_err-feed_thread-clause-err
returns-in_err-feed_thread-clause-err g c =
    let p = err_from_is_err_and c.from_residual.result c.from_residual.ensures.1 in
    let (j, fed) = c.in_err-feed_thread.ensures.err in
    rw p.1 (
      c.loop-thread.thread,
      j,
      turn_prefix c.args.setup.now _ _ _ c.loop-thread.thread j c.setup.inside.threads
          c.get.result.now c.as_slice.result.now (ap (λ s. s.threads) c.setup.view_is)
          c.get.ensures.value c.as_slice.ensures.value c.loop-thread.invariant.rows fed,
    )

pub returns-in_err-feed_thread-clause-eight : goal.returns-in_err-feed_thread-clause-eight
returns-in_err-feed_thread-clause-eight g c = c.feed_thread.ensures.eight

pub returns-clause-ok : goal.returns-clause-ok
returns-clause-ok g c =
    let all : c.loop-thread.thread ≡ 8 = omega arith in
    c.loop-thread.invariant.rows ∙ ap (fed_first c.args.setup.now _) all

pub returns-clause-eight : goal.returns-clause-eight
returns-clause-eight g c = c.loop-thread.invariant.eight
