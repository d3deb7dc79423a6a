use Rattle.std.proofs.Common.{◌≡◌, ◌≤◌, ◌++◌, map}
use Rattle.loop_command_line.specs.Lines.{words_of}
use Rattle.loop_command_line.proofs.Scans.{words_from}
use Rattle.loop_command_line.proofs.lines.words.Given as goal

abbrev pub invariant-loop-i : goal.invariant-loop-i
invariant-loop-i l = record {
  begun : l.start ≤ l.i;
  so_far : words_of l.line ≡ map (λ x. x.now) l.list.items ++ words_from l.line l.start l.i;
}
