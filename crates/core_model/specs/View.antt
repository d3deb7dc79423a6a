-- The view of a thread: all that it may depend on, and the permissions that follow for its
-- instructions.
use Rattle.std.specs.Prelude.{ℕ, Bool, ◌&&◌, if◌then◌else◌, List, slice_index_or, None}
use Rattle.region_guard.specs.Regions.{RegionKind, is_readable, is_writable}
use Rattle.region_guard.specs.Regions.{is_code, is_data, is_port, region_of}
use Rattle.region_guard.specs.Regions.RegionKind.{Foreign}
use Rattle.timer_unit.specs.Time.{time}
use Rattle.core_model.specs.Thread.{Thread, Environment}

-- the constant part of a view
pub record Setting : Type 0 where
  pub period : ℕ  -- of a cycle, in nanoseconds
  pub size : ℕ  -- of each scratchpad, in bytes
  pub thread : ℕ
  pub own : List Bool  -- of each position of the frame, whether it is the thread's
  pub i_kinds : List RegionKind  -- the kind of each region of a scratchpad, for the thread
  pub d_kinds : List RegionKind
  pub i_words : List ℕ  -- 0 in the regions that it may not read

-- a thread's view: the setting, the thread and its data words at the start, and the word of its
-- port in each cycle
pub record View : Type 0 where
  pub setting : Setting
  pub first : Thread
  pub d_words : List ℕ  -- 0 in the regions that it may not read
  pub shown : List ℕ

-- the kind that the region of an address has for the thread
abbrev pub kind_at : ℕ → List RegionKind → ℕ → RegionKind
kind_at size kinds address = slice_index_or kinds (region_of size address) Foreign

-- the permissions of its instructions at a time, from the kinds of the regions. It may fetch and
-- load from regions that are its own or read only, and store into regions that are its own or
-- shared. At the port it may load and store whole words. The configuration registers are refused
unfoldable pub environment_by : ℕ → ℕ → List RegionKind → List RegionKind → ℕ → Environment
environment_by thread size i_kinds d_kinds now =
    record {
      thread = thread;
      now = now;
      fetch = λ pc. is_code size pc && is_readable (kind_at size i_kinds pc);
      load = λ address width.
          if is_code size address then is_readable (kind_at size i_kinds address)
          else if is_data size address then is_readable (kind_at size d_kinds address)
          else is_port address width;
      store = λ address width.
          if is_data size address then is_writable (kind_at size d_kinds address)
          else is_port address width;
      shared = λ csr. None;
    }

-- the permissions in cycle c
abbrev pub solo_environment : Setting → ℕ → Environment
solo_environment s c = environment_by s.thread s.size s.i_kinds s.d_kinds (time s.period c)
