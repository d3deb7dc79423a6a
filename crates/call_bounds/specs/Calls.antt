-- A section of code with the routines that it may call: its functions, and which of them are
-- reached.
use Rattle.std.specs.Prelude.{◌≡◌, ℕ, ◌+◌, ◌==◌, if◌then◌else◌, Bool, true, false}
use Rattle.std.specs.Prelude.{Option, Some, None, List, [], ◌∷◌, filter, Contains}
use Rattle.rv_decode.specs.Lag.{redirect_lag}
use Rattle.fp_setup.specs.declared.loop_list.LoopSetup.{LoopSetup}
use Rattle.rv_decode.specs.Table.{ins}
use Rattle.rv_decode.specs.declared.instruction.Ins.{Ins}
use Rattle.rv_decode.specs.declared.instruction.Ins.TheVariants.{Jal}
use Rattle.region_tree.specs.Edges.{aligned_target, edges_of, offset}
use Rattle.region_tree.specs.Graph.{Edge, Graph, Reachable, edge_list}
use Rattle.region_tree.specs.Tree.{counts}
use Rattle.region_tree.specs.declared.edges.Stop.{Stop}
use Rattle.region_tree.specs.declared.edges.Stop.TheVariants.{No}
use Rattle.region_tree.specs.declared.section.Section.{Section}
use Rattle.call_bounds.specs.declared.routines.Routine.{Routine}

-- A section, the listed routines, the words of memory, and the listed loops.
pub record Calls : Type 0 where
  pub section : Section
  pub routines : List Routine
  pub word : ℕ → ℕ
  pub loops : List LoopSetup

-- A function of the call graph: the section itself, or a routine.
abbrev pub Function : Type 0
Function = Option Routine

-- the addresses of its words, from the first to below the one after the last
abbrev pub range : Calls → Function → Section
range x None = x.section
range x (Some r) = record { from = r.head; to = r.last + 4 }

-- the first of the routines with this head
unfoldable pub routine_at : List Routine → ℕ → Option Routine
routine_at [] a = None
routine_at (r ∷ rs) a = if r.head == a then Some r else routine_at rs a

-- the target of a jump that writes the address after it to register 1, if it is one
unfoldable pub link_target : ℕ → Ins → Option ℕ
link_target address (Jal rd off) = if rd == 1 then aligned_target (offset address off) else None
link_target address i = None

-- the routine whose head is the target of a jump, if there is one
abbrev pub routine_to : List Routine → Option ℕ → Option Routine
routine_to routines None = None
routine_to routines (Some a) = routine_at routines a

-- the routine that the word at an address calls, if it is a call
abbrev pub callee : Calls → ℕ → Option Routine
callee x u = routine_to x.routines (link_target u (ins (x.word u)))

-- the return instruction: a jump to the address in register 1
abbrev pub is_back : ℕ → Bool
is_back w = w == 0x00008067

-- whether the word at an address of a function is a return: only routines have returns
abbrev pub returns : Calls → Function → ℕ → Bool
returns x None u = false
returns x (Some r) u = is_back (x.word u)

-- these edges, if the word is no call
abbrev pub plain_unless : Option Routine → List Edge → List Edge
plain_unless None edges = edges
plain_unless (Some r) edges = []

-- the edges of the word at an address that are no calls
abbrev pub plain_edges : Calls → ℕ → List Edge
plain_edges x u = plain_unless (callee x u) (edge_list (edges_of (x.word u) u))

-- The edges inside one function: a call has an edge to the word after it, its return address. The
-- lag is only the jump's.
abbrev pub inner_edges : Option Routine → ℕ → List Edge → List Edge
inner_edges None u edges = edges
inner_edges (Some r) u edges = record { to = u + 4; lag = redirect_lag } ∷ []

-- a return is no stop
abbrev pub stop_unless : Bool → Stop → Stop
stop_unless true s = No
stop_unless false s = s

-- the control-flow graph of a function, with the loops whose head and last word both lie in it
abbrev pub function : Calls → Function → Graph
function x p = record {
  from = (range x p).from;
  to = (range x p).to;
  edges = λ u. inner_edges (callee x u) u (edge_list (edges_of (x.word u) u));
  stop = λ u. stop_unless (returns x p u) (edges_of (x.word u) u).stop;
  loops = filter (counts (range x p)) x.loops;
}

-- The functions that are reached: the section, and each routine that a reachable word of a reached
-- function calls.
pub data IsReached (x : Calls) : Function → Type 0 where
  first : IsReached x None
  next : {p : Function} {u : ℕ} {r : Routine} → IsReached x p → Reachable (function x p) u →
      callee x u ≡ Some r → IsReached x (Some r)

-- Calls lead from one function to another: one or more, each from a reachable word of a reached
-- function.
pub data CallsLead (x : Calls) (p : Function) : Function → Type 0 where
  one : {u : ℕ} {r : Routine} → IsReached x p → Reachable (function x p) u → callee x u ≡ Some r →
      CallsLead x p (Some r)
  more : {q : Function} {u : ℕ} {r : Routine} → CallsLead x p q → IsReached x q →
      Reachable (function x q) u → callee x u ≡ Some r → CallsLead x p (Some r)

-- the loops that count: those of the reached functions
pub record Counts (x : Calls) (j : LoopSetup) : Type 0 where
  pub within : Function
  pub reached : IsReached x within
  pub known : Contains (function x within).loops j
