use Rattle.std.proofs.Common.{◌≡◌, ◌<◌, length, map, take}
use Rattle.std.specs.List.{All}
use Rattle.fp_setup.specs.declared.thread_list.ThreadSetup.{ThreadSetup}
use Rattle.fp_setup.specs.Threads.{IsThread}
use Rattle.fp_setup.specs.SetupOfTables.{the_threads}
use Rattle.fp_setup.specs.Plain.{plain_at}
use Rattle.fp_setup.proofs.thread_list.Threads.plain.Given as goal

abbrev pub invariant-loop-thread : goal.invariant-loop-thread
invariant-loop-thread l = record {
  eight : length l.threads ≡ 8;
  made : take l.thread l.threads ≡ map (plain_at l.entries l.confined) (take l.thread the_threads);
  each : All IsThread l.threads;
  inside : All (λ (t : ThreadSetup). t.entry < 16384) l.threads;
}
