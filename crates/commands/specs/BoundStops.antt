-- Why a section has no bound.
use Rattle.std.specs.Prelude.{Option, Some, None}
use Rattle.trace_print.specs.declared.refusals.Refusal.{Refusal}
use Rattle.region_tree.specs.declared.tree.TreeNo.{TreeNo}
use Rattle.call_bounds.specs.declared.tree.CallNo.{CallNo}
use Rattle.bound_calc.specs.declared.cycle_bound.BoundNo.{BoundNo}
use Rattle.bound_calc.specs.declared.cycle_bound.BoundNo.TheVariants as in_bound
use Rattle.commands.specs.declared.stop.CommandStop.{CommandStop}
use Rattle.commands.specs.declared.stop.CommandStop.TheVariants.{Refused, NoMemory}
use Rattle.commands.specs.declared.codes.BoundCode.TheVariants.{Overflow}
use Rattle.commands.specs.Codes.{bound_refused, call_refusal, tree_refusal}

-- from its refusal, if there is one: there is none if memory ran out
abbrev pub stop_by : Option Refusal → CommandStop
stop_by (Some refusal) = Refused refusal
stop_by None = NoMemory

-- because of its own control-flow graph
abbrev pub stop_of_tree : TreeNo → CommandStop
stop_of_tree cause = stop_by (tree_refusal cause)

-- with the routines that it calls
abbrev pub stop_of_calls : CallNo → CommandStop
stop_of_calls cause = stop_by (call_refusal cause)

-- because its bound has more than 64 bits, or memory ran out
abbrev pub stop_of_bound : BoundNo → CommandStop
stop_of_bound (in_bound.Overflow value) = Refused (bound_refused Overflow value)
stop_of_bound in_bound.NoMemory = NoMemory
