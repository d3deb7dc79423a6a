use Rattle.std.proofs.Common.{◌≡◌, ◌+◌, drop, map, vec_len}
use Rattle.loop_command_line.specs.Plants.{after_lines}
use Rattle.loop_command_line.proofs.plants.add_lines.Given as goal

abbrev pub invariant-loop-line : goal.invariant-loop-line
invariant-loop-line l = record {
  eight : vec_len l.plants ≡ 8;
  number : l.number ≡ l.line-index + 1;
  so_far : after_lines 1 l.fn.plants.items (map (λ line. line.now) l.lines)
      ≡ after_lines l.number l.plants.items (map (λ line. line.now) (drop l.line-index l.lines));
}
