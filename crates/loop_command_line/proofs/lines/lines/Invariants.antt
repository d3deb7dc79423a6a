use Rattle.std.proofs.Common.{◌≡◌, ◌≤◌, ◌++◌, map}
use Rattle.loop_command_line.specs.Lines.{lines_of}
use Rattle.loop_command_line.proofs.Scans.{lines_from}
use Rattle.loop_command_line.proofs.lines.lines.Given as goal

abbrev pub invariant-loop-i : goal.invariant-loop-i
invariant-loop-i l = record {
  begun : l.start ≤ l.i;
  so_far : lines_of l.text ≡ map (λ x. x.now) l.list.items ++ lines_from l.text l.start l.i;
}
