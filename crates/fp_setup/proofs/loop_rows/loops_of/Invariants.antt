use Rattle.std.proofs.Common.{◌≡◌, ◌<◌, map, take, drop}
use Rattle.std.specs.List.{All}
use Rattle.toml.specs.View.{view}
use Rattle.fp_setup.specs.declared.loop_list.LoopSetup.{LoopSetup}
use Rattle.fp_setup.specs.Loops.{IsLoop}
use Rattle.fp_setup.specs.Values.{members}
use Rattle.fp_setup.specs.FaultOrder.{loops_from}
use Rattle.fp_setup.specs.SetupOfTables.{loop_of}
use Rattle.fp_setup.proofs.loop_rows.loops_of.Given as goal

abbrev pub invariant-loop-row : goal.invariant-loop-row
invariant-loop-row l = record {
  found : loops_from l.size 0 (map view l.items)
      ≡ loops_from l.size l.row (map view (drop l.row l.items));
  read : l.read.items ≡ map loop_of (map members (map view (take l.row l.items)));
  each : All IsLoop l.read.items;
  inside : All (λ (x : LoopSetup). x.last < l.size) l.read.items;
}
