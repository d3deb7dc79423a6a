use Rattle.std.proofs.Common.{◌≡◌, ◌≤◌, ◌<◌, map, take, drop, None}
use Rattle.std.specs.List.{All, AllPairs}
use Rattle.toml.specs.View.{view}
use Rattle.timer_unit.specs.Time.{most_cycles}
use Rattle.fp_setup.specs.declared.input_list.Input.{Input}
use Rattle.fp_setup.specs.Values.{input_of}
use Rattle.fp_setup.specs.Checks.{inputs_from}
use Rattle.fp_setup.proofs.Lists.{IsReached}
use Rattle.fp_setup.proofs.input_rows.inputs_of.Given as goal

abbrev pub invariant-loop-index : goal.invariant-loop-index
invariant-loop-index l = record {
  found : inputs_from l.place 0 None (map view l.items)
      ≡ inputs_from l.place l.index l.before (map view (drop l.index l.items));
  read : l.read.items ≡ map input_of (map view (take l.index l.items));
  within : All (λ (i : Input). i.at ≤ most_cycles) l.read.items;
  rising : AllPairs (λ (i j : Input). i.at < j.at) l.read.items;
  reached : All (λ (i : Input). IsReached l.before i.at) l.read.items;
}
