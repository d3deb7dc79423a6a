-- The rules that the values of a setup keep.
use Rattle.std.specs.Prelude.{◌≡◌, ◌<◌, ◌≤◌, ◌⊎◌, IsTrue, length}
use Rattle.std.specs.List.{All}
use Rattle.slot_table.specs.Table.{is_table}
use Rattle.region_guard.specs.RegionsWord.{is_regions}
use Rattle.fp_setup.specs.declared.thread_list.ThreadSetup.{ThreadSetup}
use Rattle.fp_setup.specs.declared.loop_list.LoopSetup.{LoopSetup}
use Rattle.fp_setup.specs.Threads.{AreThreads}
use Rattle.fp_setup.specs.Loops.{AreLoops}
use Rattle.fp_setup.specs.Settings.{Settings, size_of}

-- the rules of an accepted setup; each of its words is below 2^32
pub record KeepsRules (s : Settings) : Type 0 where
  pub version : (s.version ≡ 1) ⊎ (s.version ≡ 2)
  pub period_low : 1 ≤ s.period
  pub period_high : s.period ≤ 1000
  pub slots : IsTrue (is_table s.slots)
  pub modes : s.modes < 65536
  pub iregions : IsTrue (is_regions s.iregions)
  pub dregions : IsTrue (is_regions s.dregions)
  pub named : 1 ≤ length s.image
  pub name_short : length s.image ≤ 255
  pub threads : AreThreads s.threads
  pub entries : All (λ (t : ThreadSetup). t.entry < size_of s.version) s.threads
  pub loops : AreLoops s.loops
  pub ends : All (λ (l : LoopSetup). l.last < size_of s.version) s.loops
