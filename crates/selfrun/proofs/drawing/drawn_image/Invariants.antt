use Rattle.std.proofs.Common.{◌≡◌, ◌*◌}
use Rattle.std.specs.Prelude.{map}
use Rattle.std.specs.List.{range_with_len}
use Rattle.selfrun.specs.Drawn.{draw, segment}
use Rattle.selfrun.proofs.drawing.drawn_image.Given as goal

abbrev pub invariant-loop-k : goal.invariant-loop-k
invariant-loop-k l = record {
  image : l.image ≡ map (segment l.number) (range_with_len 0 l.k);
  x : l.x ≡ draw l.number (124 * l.k);
}
