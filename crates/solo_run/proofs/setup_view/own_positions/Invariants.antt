-- The positions so far, from the last one on.
use Rattle.std.proofs.Common.{◌≡◌, ◌-◌, ◌<◌, ◌^◌, ◌==◌, length, map, drop}
use Rattle.slot_table.specs.Frame.{frame}
use Rattle.solo_run.specs.View.{positions}
use Rattle.solo_run.proofs.setup_view.own_positions.Given as goal

abbrev pub invariant-loop-position : goal.invariant-loop-position
invariant-loop-position l = record {
  mine : positions l.own (length (frame l.slots) - l.position)
      ≡ map (λ slot. slot == l.thread) (drop l.position (frame l.slots));
  inside : l.own < 2 ^ (length (frame l.slots) - l.position);
}
