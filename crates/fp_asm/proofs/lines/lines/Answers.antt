use Rattle.std.proofs.Common.{rules, arith}
use Rattle.fp_asm.proofs.LineByLine.{lines_push, lines_start, lines_on, lines_last}
use Rattle.fp_asm.proofs.lines.lines.Goals as goal

pub loop-i-preserved : goal.loop-i-preserved
loop-i-preserved c = record {
  begun = omega arith;
  so_far =
      rw c.in_ok-push.ensures.items
      (lines_push c.args.source.now c.loop-i.start c.loop-i.i _ _ c.loop-i.invariant.so_far
      c.loop-i-test.true c.if-source-i-ne10.false c.without_return.ensures.line);
  short = search rules;
  few = omega (arith, c.push.ensures);
}

pub loop-i-init : goal.loop-i-init
loop-i-init c = grind (arith, lines_start)

pub loop-i-preserved-then-source-i-ne10 : goal.loop-i-preserved-then-source-i-ne10
loop-i-preserved-then-source-i-ne10 c = grind (arith, lines_on)

pub returns : goal.returns
returns c = record {
  lines = grind (arith, lines_last);
  short = search rules;
  few = omega arith;
}

pub returns-in_err-push : goal.returns-in_err-push
returns-in_err-push c = search rules

pub returns-in_err-push-2 : goal.returns-in_err-push-2
returns-in_err-push-2 c = search rules
