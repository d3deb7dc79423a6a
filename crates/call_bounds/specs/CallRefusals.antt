-- The sections and routines that have no bound, and why.
use Rattle.std.specs.Prelude.{◌≡◌, ℕ, ◌<◌, ◌≤◌, Some, Contains}
use Rattle.fp_setup.specs.Loops.{AreLoops}
use Rattle.region_tree.specs.Tree.{IsSection}
use Rattle.region_tree.specs.Graph.{Edge, Graph, Lies, Reachable}
use Rattle.region_tree.specs.Refusals.{IndirectAt, Nowhere, TimedAt, UnboundedAt}
use Rattle.region_tree.specs.Nesting.{NestingAt}
use Rattle.call_bounds.specs.declared.routines.Routine.{Routine}
use Rattle.call_bounds.specs.Routines.{AreRoutines}
use Rattle.call_bounds.specs.Calls.{Calls, CallsLead, IsReached, Function, function}

-- a routine that has a word in common with the section
pub record OverlapAt (x : Calls) (a : ℕ) : Type 0 where
  pub routine : Routine
  pub listed : Contains x.routines routine
  pub below : routine.head < x.section.to
  pub above : x.section.from ≤ routine.last
  pub address : a ≡ routine.head

-- a reached routine from which calls lead back to it
pub record RecursionAt (x : Calls) (a : ℕ) : Type 0 where
  pub routine : Routine
  pub again : CallsLead x (Some routine) (Some routine)
  pub address : a ≡ routine.head

-- P holds at an address of some reached function
pub record InFunctions (x : Calls) (P : Graph → ℕ → Type 0) (a : ℕ) : Type 0 where
  pub within : Function
  pub reached : IsReached x within
  pub holds : P (function x within) a

-- a reachable word of a reached routine with an edge out of it, or with a call that would return
-- out of it
pub record EscapeAt (x : Calls) (u : ℕ) : Type 0 where
  pub routine : Routine
  pub from : IsReached x (Some routine)
  pub word : Reachable (function x (Some routine)) u
  pub by : Edge
  pub edge : Contains ((function x (Some routine)).edges u) by
  pub out : Lies (function x (Some routine)) by.to → ⊥

-- None of the causes holds anywhere.
pub record IsCallable (x : Calls) : Type 0 where
  pub overlap : Nowhere (OverlapAt x)
  pub recursion : Nowhere (RecursionAt x)
  pub nesting : Nowhere (InFunctions x NestingAt)
  pub indirect : Nowhere (InFunctions x IndirectAt)
  pub timed : Nowhere (InFunctions x TimedAt)
  pub unbounded : Nowhere (InFunctions x UnboundedAt)
  pub escape : Nowhere (EscapeAt x)

-- the rules of a section, its routines and its loops
pub record IsListing (x : Calls) : Type 0 where
  pub section : IsSection x.section
  pub routines : AreRoutines x.routines
  pub loops : AreLoops x.loops
