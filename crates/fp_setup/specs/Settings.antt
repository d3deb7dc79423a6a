-- A setup as plain values.
use Rattle.std.specs.Prelude.{ℕ, List, if◌then◌else◌, ◌==◌}
use Rattle.region_guard.specs.MemoryMap.{small_size, large_size}
use Rattle.fp_setup.specs.declared.thread_list.ThreadSetup.{ThreadSetup}
use Rattle.fp_setup.specs.declared.loop_list.LoopSetup.{LoopSetup}

-- the settings of a setup
pub record Settings : Type 0 where
  pub version : ℕ
  -- nanoseconds per cycle
  pub period : ℕ
  -- the words of the registers of slots, modes and regions
  pub slots : ℕ
  pub modes : ℕ
  pub iregions : ℕ
  pub dregions : ℕ
  -- the bytes of the image file's name
  pub image : List ℕ
  -- the eight threads, and the loops
  pub threads : List ThreadSetup
  pub loops : List LoopSetup

-- the bytes of each scratchpad, by the version
abbrev pub size_of : ℕ → ℕ
size_of version = if version == 2 then large_size else small_size
