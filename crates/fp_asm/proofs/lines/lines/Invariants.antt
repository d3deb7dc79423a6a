use Rattle.std.proofs.Common.{◌≡◌, ◌≤◌, ◌++◌, map, length, All}
use Rattle.fp_asm.specs.Lines.{lines_of}
use Rattle.fp_asm.proofs.LineByLine.{lines_from}
use Rattle.fp_asm.proofs.lines.lines.Given as goal

abbrev pub invariant-loop-i : goal.invariant-loop-i
invariant-loop-i l = record {
  begun : l.start ≤ l.i;
  so_far : lines_of l.source ≡ map (λ x. x.now) l.list.items ++ lines_from l.source l.start l.i;
  short : All (λ line. length line.now ≤ length l.source) l.list.items;
  few : length l.list.items ≤ l.i;
}
