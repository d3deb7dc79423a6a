use Rattle.std.proofs.Common.{◌<◌, ℕ, List, arith, rules}
use Rattle.std.proofs.lemmas.Result.{err_from_is_err_and}
use Rattle.machine.proofs.Putting.{line_taken, line_begun}
use Rattle.selfrun.specs.Text.{tally_at, tally_line}
use Rattle.selfrun.proofs.running.Selfrun.put.Goals as goal

pub loop-k-preserved : goal.loop-k-preserved
loop-k-preserved g c =
    let line : ℕ → List ℕ = λ k. tally_line k (tally_at c.args.self.now.tallies k) in
    record {
      contents =
          line_taken (g.K.Sink.taken c.args.out.now) (g.K.Sink.taken c.loop-k.out)
          (g.K.Sink.taken c.put_line.new.out) line c.loop-k.k c.loop-k.invariant.contents
          c.in_ok-put_line.ensures.ok;
      counted = omega (arith, c.loop-k.invariant.counted, c.put_line.ensures.counted);
    }

pub returns-in_err-put_line-clause-err : goal.returns-in_err-put_line-clause-err
returns-in_err-put_line-clause-err g c =
    let line : ℕ → List ℕ = λ k. tally_line k (tally_at c.args.self.now.tallies k) in
    let within : c.loop-k.k < 8 = omega (arith, c.loop-k-test.true) in
    let p = err_from_is_err_and c.from_residual.result c.from_residual.ensures.1 in
    rw p.1 (line_begun (g.K.Sink.taken c.args.out.now) (g.K.Sink.taken c.loop-k.out)
    (g.K.Sink.taken c.put_line.new.out) line c.loop-k.k 8
    within c.loop-k.invariant.contents c.in_err-put_line.ensures.err)

pub returns-clause-ok : goal.returns-clause-ok
returns-clause-ok g c = search rules

pub returns-clause-failed : goal.returns-clause-failed
returns-clause-failed g c = search rules
