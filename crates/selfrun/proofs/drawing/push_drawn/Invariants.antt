use Rattle.std.proofs.Common.{◌≡◌, ◌++◌}
use Rattle.selfrun.specs.Drawn.{bytes_of, draw, drawn_from}
use Rattle.selfrun.proofs.drawing.push_drawn.Given as goal

abbrev pub invariant-loop-draw : goal.invariant-loop-draw
invariant-loop-draw l = record {
  bytes : l.bytes.items ≡ l.initial.bytes.items ++ bytes_of (drawn_from l.first l._draw);
  x : l.x ≡ draw l.first l._draw;
}
