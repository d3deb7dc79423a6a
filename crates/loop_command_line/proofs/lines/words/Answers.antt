use Rattle.std.proofs.Common.{rules, arith}
use Rattle.loop_command_line.proofs.Scans.{words_done, words_last, words_on, words_push, words_skip}
use Rattle.loop_command_line.proofs.Scans.{words_start}
use Rattle.loop_command_line.proofs.lines.words.Goals as goal

pub loop-i-init : goal.loop-i-init
loop-i-init c = grind (arith, words_start)

pub loop-i-preserved-then-not-is_blank : goal.loop-i-preserved-then-not-is_blank
loop-i-preserved-then-not-is_blank c = grind (arith, words_on)

pub loop-i-preserved-then-start-i : goal.loop-i-preserved-then-start-i
loop-i-preserved-then-start-i c = grind (arith, words_skip)

pub loop-i-preserved : goal.loop-i-preserved
loop-i-preserved c = record {
  begun = omega arith;
  so_far =
      rw c.in_ok-push.ensures.items
      (words_push c.args.line.now c.loop-i.start c.loop-i.i _ _ c.loop-i.invariant.so_far
      c.loop-i-test.true (grind arith) (grind arith) (search rules));
}

pub returns-then-start-line : goal.returns-then-start-line
returns-then-start-line c = grind (arith, words_done)

pub returns : goal.returns
returns c = grind (arith, words_last)
