-- A machine in loops with sampled plants.
use Rattle.std.specs.Prelude.{◌≡◌, ℕ, suc, ◌-◌, ◌*◌, ◌<◌, nat_lt, true}
use Rattle.std.specs.Prelude.{if◌then◌else◌, List, length, Option, None, is_some}
use Rattle.std.specs.Io.KnownBytes.{Appends}
use Rattle.fp_ports.specs.PluggedPorts.{Row, row_at}
use Rattle.trace_print.specs.Text.{text}
use Rattle.core_model.specs.World.{Start, events, port_word}
use Rattle.machine.specs.declared.state.Machine.{Machine}
use Rattle.machine.specs.WorldRelation.{Refines}
use Rattle.closed_loops.specs.Answered.{with_all_shown}
use Rattle.closed_loops.specs.Sampled.{latch_samples}
use Rattle.loop_runs.specs.Plants.{Continues, Response, loop_start, response_at}

-- the number of samples that the plant of thread j has taken. The plants of the first i threads
-- have done step q, the others only the steps before it. Step 0 takes none
abbrev pub samples_taken : ℕ → ℕ → ℕ → ℕ
samples_taken q i j = if nat_lt j i then q else q - 1

-- the first cycle for which its port has no word of the plant yet
abbrev pub words_end : ℕ → ℕ → ℕ → ℕ → ℕ
words_end every q i j = (if nat_lt j i then suc q else q) * every

-- a machine at cycle c of a run of n cycles, whose plants had these responses first and have those
-- now. Its ports show the words of the closed run as far as the plants have responded
pub record Looping (first now : List (Option Response)) (every : ℕ) (s : Start) (n q i c : ℕ)
    (m : Machine) (ports : List (Option Row)) : Type 0 where
  pub shown : List (List ℕ)
  pub eight : length shown ≡ 8
  pub refines : Refines (with_all_shown s shown) c n m ports
  pub words : (a j : ℕ) → j < 8 → a < n → a < words_end every q i j
      → port_word (with_all_shown s shown) a j ≡ port_word (loop_start first every s n) a j
  pub inputs : (a j : ℕ) → j < 8 → a < n → response_at first j ≡ None
      → port_word (with_all_shown s shown) a j ≡ port_word s a j
  pub plants : (j : ℕ) → j < 8 → is_some (row_at ports j) ≡ true
      → Continues (response_at first j) (response_at now j)
      (latch_samples (loop_start first every s n) j every (samples_taken q i j))

-- and it has put the text of a thread's events in the closed run so far
pub record HasLooped (first now : List (Option Response))
    (every : ℕ) (s : Start) (n q i c thread : ℕ)
    (m : Machine) (ports : List (Option Row)) (before after : Option (List ℕ)) : Type 0 where
  pub looping : Looping first now every s n q i c m ports
  pub put : Appends before after (text (events (loop_start first every s n) thread c))
