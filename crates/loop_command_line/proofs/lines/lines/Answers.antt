use Rattle.std.proofs.Common.{rules, arith}
use Rattle.loop_command_line.proofs.Scans.{lines_push, lines_start, lines_on, lines_last}
use Rattle.loop_command_line.proofs.lines.lines.Goals as goal

pub loop-i-preserved : goal.loop-i-preserved
loop-i-preserved c = record {
  begun = omega arith;
  so_far =
      rw c.in_ok-push.ensures.items
      (lines_push c.args.text.now c.loop-i.start c.loop-i.i _ _ c.loop-i.invariant.so_far
      c.loop-i-test.true c.if-text-i-ne10.false (search rules));
}

pub loop-i-init : goal.loop-i-init
loop-i-init c = grind (arith, lines_start)

pub loop-i-preserved-then-text-i-ne10 : goal.loop-i-preserved-then-text-i-ne10
loop-i-preserved-then-text-i-ne10 c = grind (arith, lines_on)

pub returns : goal.returns
returns c = grind (arith, lines_last)
