-- The rules of threads, for scratchpads of any size.
use Rattle.std.specs.Prelude.{◌≡◌, ◌%◌, ◌<◌, ◌≤◌, false, ◌&&◌, List, length, IfSome}
use Rattle.std.specs.List.{All}
use Rattle.region_guard.specs.MemoryMap.{large_size}
use Rattle.timer_unit.specs.Time.{most_cycles}
use Rattle.fp_setup.specs.Inputs.{AreInputs}
use Rattle.fp_setup.specs.declared.thread_list.ThreadSetup.{ThreadSetup}

pub record IsThread (t : ThreadSetup) : Type 0 where
  pub aligned : t.entry % 4 ≡ 0
  pub inside : t.entry < large_size
  pub one_of_both : (t.confined && t.permit) ≡ false
  pub unplugged : IfSome t.unplug (λ at. at ≤ most_cycles)
  pub fed : AreInputs t.inputs

pub record AreThreads (threads : List ThreadSetup) : Type 0 where
  pub eight : length threads ≡ 8
  pub each : All IsThread threads
