-- The dump of a machine with its ports.
use Rattle.std.specs.Prelude.{ℕ, List, Option}
use Rattle.fp_ports.specs.PluggedPorts.{Row}
use Rattle.pipeline_core.specs.Abstraction.{abstract_stages, abstract_state}
use Rattle.machine.specs.Fields.{dump_line, dump_of}
use Rattle.machine.specs.declared.state.Machine.{Machine}

-- a line of it, by its number
abbrev pub line_of : Machine → List (Option Row) → ℕ → List ℕ
line_of m ports k = dump_line (abstract_stages m.pipe) (abstract_state m.units ports) m.at k

-- the whole dump
abbrev pub text_of : Machine → List (Option Row) → List ℕ
text_of m ports = dump_of (abstract_stages m.pipe) (abstract_state m.units ports) m.at
