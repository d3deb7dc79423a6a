-- When the fields of a machine and its ports refine a cycle of a world. The world's lists of shown
-- words have n entries.
use Rattle.std.specs.Prelude.{◌≡◌, ℕ, zero, suc, ◌+◌, ◌<◌, ◌≤◌, false, ◌&&◌, if◌then◌else◌}
use Rattle.std.specs.Prelude.{List, slice_index_or, slice_set, Option, None, is_some}
use Rattle.fp_ports.specs.PluggedPorts.{Row, row_at, word_seen, absent_word}
use Rattle.fp_ports.specs.ShownWords.{is_gone}
use Rattle.core_model.specs.Delays.{cycles_to_m}
use Rattle.core_model.specs.World.{Start, port_word}
use Rattle.pipe_model.specs.Stages.{StageRegisters, State}
use Rattle.pipe_model.specs.Relation.{PipelineRefines, Begins, stays_in}
use Rattle.machine.specs.DumpedState.{is_port_left}

-- the word that a thread's issue of a cycle reads at its port
abbrev pub port_read : Option ℕ → Option Row → ℕ → ℕ
port_read unplug row c = if is_gone unplug c then absent_word else word_seen row c

-- the ports after c cycles: which are there, and that the issues from cycle c - 3 on read the words
-- of the world there. Those issues haven't reached their ports yet
pub record Plugged (s : Start) (c n : ℕ) (ports : List (Option Row)) : Type 0 where
  pub there : (k : ℕ) → k < 8 → is_some (row_at ports k)
      ≡ (slice_index_or s.handed k false && is_port_left (slice_index_or s.unplugs k None) c)
  pub words : (k at : ℕ) → k < 8 → at < n → c ≤ at + cycles_to_m →
      port_word s at k ≡ port_read (slice_index_or s.unplugs k None) (row_at ports k) at

-- the machine by its fields: the pipeline, the units with the ports, the cycles done and the cycles
-- in which ports are taken away
pub record FieldsRefine (s : Start) (c n : ℕ) (p : StageRegisters) (u : State) (at : ℕ)
    (unplugs : List (Option ℕ)) : Type 0 where
  pub begins : Begins s
  pub refines : PipelineRefines s c p u
  pub cycle : at ≡ c
  pub due : unplugs ≡ s.unplugs
  pub ports : Plugged s c n u.ports

-- the ports in cycle c: among the first k threads, those that were unplugged three or more cycles
-- ago are removed
abbrev pub ports_left_in : List (Option ℕ) → ℕ → List (Option Row) → ℕ → List (Option Row)
ports_left_in unplugs c ports zero = ports
ports_left_in unplugs c ports (suc k) =
    let rest = ports_left_in unplugs c ports k in
    if stays_in (slice_index_or unplugs k None) c then rest else slice_set rest k None
