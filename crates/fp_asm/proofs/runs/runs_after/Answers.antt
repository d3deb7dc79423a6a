use Rattle.std.proofs.Common.{◌+◌, get_or, ap, sym, ◌∙◌, arith}
use Rattle.fp_asm.proofs.RunByRun.{left, runs_start, runs_on, runs_off, runs_end}
use Rattle.fp_asm.proofs.runs.runs_after.Goals as goal

pub loop-a-init : goal.loop-a-init
loop-a-init c = record {
  count_small = omega arith;
  first_small = omega arith;
  so_far = rw c.new-list.ensures.items (sym (runs_start c.args.start 1 c.args.others.now));
}

pub loop-a-preserved-then-from : goal.loop-a-preserved-then-from
loop-a-preserved-then-from c =
    let same =
    rw (c.from.ensures, c.from-in-loop-a.ensures, c.from-in-loop-a-2.ensures) at c.if-from.true in
    record {
      count_small = omega arith;
      first_small = c.loop-a.invariant.first_small;
      so_far =
          c.loop-a.invariant.so_far
          ∙ runs_on c.loop-a.list.items c.loop-a.first c.loop-a.count c.args.others.now
          c.loop-a.a-index 0 c.loop-a-test.true same;
    }

pub loop-a-preserved : goal.loop-a-preserved
loop-a-preserved c =
    let i = c.loop-a.a-index in
    let others = c.args.others.now in
    let apart =
    rw (c.from.ensures, c.from-in-loop-a.ensures, c.from-in-loop-a-2.ensures) at c.if-from.false in
    record {
      count_small = omega arith;
      first_small = omega (arith, c.from.ensures);
      so_far =
          c.loop-a.invariant.so_far
          ∙ (runs_off c.loop-a.list.items c.loop-a.first c.loop-a.count others i 0
          c.loop-a-test.true apart ∙ ap (λ list. left list (get_or others i 0) 1 others (i + 1))
          (sym c.in_ok-push.ensures.items));
    }

pub returns : goal.returns
returns c =
    c.loop-a.invariant.so_far
    ∙ (runs_end c.loop-a.list.items c.loop-a.first c.loop-a.count c.args.others.now c.loop-a.a-index
    c.loop-a-test.false ∙ sym c.in_ok-push-2.ensures.items)
