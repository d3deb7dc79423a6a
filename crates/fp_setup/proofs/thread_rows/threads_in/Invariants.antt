use Rattle.std.proofs.Common.{◌≡◌, ◌<◌, map, take, drop, length, nat_lt, true, []}
use Rattle.std.specs.List.{All, list_all}
use Rattle.toml.specs.View.{view}
use Rattle.fp_setup.specs.declared.thread_list.ThreadSetup.{ThreadSetup}
use Rattle.fp_setup.specs.Threads.{IsThread}
use Rattle.fp_setup.specs.Values.{members}
use Rattle.fp_setup.specs.FaultOrder.{threads_from}
use Rattle.fp_setup.specs.SetupOfTables.{id_at, modes_of, threads_of}
use Rattle.fp_setup.proofs.thread_rows.threads_in.Given as goal

abbrev pub invariant-loop-index : goal.invariant-loop-index
invariant-loop-index l = let rows = map members (map view (take l.index l.items)) in record {
  eight : length l.ids ≡ 8;
  eight_modes : length l.rows.modes ≡ 8;
  eight_threads : length l.rows.threads ≡ 8;
  ids : take l.index l.ids ≡ map id_at rows;
  found : threads_from l.size 0 [] (map view l.items)
      ≡ threads_from l.size l.index (take l.index l.ids) (map view (drop l.index l.items));
  modes : l.rows.modes ≡ modes_of rows;
  threads : l.rows.threads ≡ threads_of rows;
  few : list_all (λ n. nat_lt n 4) l.rows.modes ≡ true;
  each : All IsThread l.rows.threads;
  inside : All (λ (t : ThreadSetup). t.entry < l.size) l.rows.threads;
}
