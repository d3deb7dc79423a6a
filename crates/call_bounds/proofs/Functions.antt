-- The functions of a section with routines.
use Rattle.std.proofs.Common.{◌≡◌, ℕ, ◌+◌, ◌<◌, refl, arith, subst}
use Rattle.std.proofs.Common.{sym, Option, Some, None, List, Contains}
use Rattle.fp_setup.specs.declared.loop_list.LoopSetup.{LoopSetup}
use Rattle.region_tree.specs.Edges.{edges_of}
use Rattle.region_tree.specs.Graph.{Edge, Lies, Reachable, edge_list}
use Rattle.region_tree.specs.Graph.Reachable.{first, next}
use Rattle.bound_calc.specs.Section.{IsAccepted}
use Rattle.call_bounds.specs.declared.routines.Routine.{Routine}
use Rattle.call_bounds.specs.Calls.{Calls, CallsLead, IsReached, Function, callee}
use Rattle.call_bounds.specs.Calls.{inner_edges, function, plain_edges, plain_unless}

-- The facts of functions, if there is no cause of a refusal.
pub record AreFunctions (x : Calls) : Type 0 where
  pub some : (a : Function) → IsReached x a → (function x a).from < (function x a).to
  pub same : (a b : Function) (v : ℕ) → IsReached x a → IsReached x b → Lies (function x a) v →
      Lies (function x b) v → a ≡ b
  pub once : (a : Function) → CallsLead x a a → ⊥
  pub accepted : (a : Function) → IsReached x a → IsAccepted (function x a)

plain-in : (o : Option Routine) (u : ℕ) (edges : List Edge) (e : Edge) →
    Contains (plain_unless o edges) e → Contains (inner_edges o u edges) e
plain-in None u edges e h = h
plain-in (Some r) u edges e h = absurd (omega (arith, h.1))

-- plain edges are edges of the function
pub plain-edge : (x : Calls) (a : Function) (u : ℕ) (e : Edge) → Contains (plain_edges x u) e →
    Contains ((function x a).edges u) e
plain-edge x a u e h = plain-in (callee x u) u (edge_list (edges_of (x.word u) u)) e h

call-in : (o : Option Routine) (t : Routine) (u : ℕ) (edges : List Edge) → o ≡ Some t →
    Contains (inner_edges o u edges) (record { to = u + 4; lag = 3 })
call-in None t u edges e = cc
call-in (Some r) t u edges e = (0, omega arith, refl)

-- a call has an edge to the word after it
pub call-edge : (x : Calls) (a : Function) (u : ℕ) (t : Routine) → callee x u ≡ Some t →
    Contains ((function x a).edges u) (record { to = u + 4; lag = 3 })
call-edge x a u t e = call-in (callee x u) t u (edge_list (edges_of (x.word u) u)) e

pub word-lies : (x : Calls) (a : Function) (u : ℕ) → (function x a).from < (function x a).to →
    Reachable (function x a) u → Lies (function x a) u
word-lies x a u some first = record { low = omega arith; high = some }
word-lies x a u some (next e r h l) = l

-- calls lead only from reached functions to reached functions
pub lead-reached : (x : Calls) (a b : Function) → CallsLead x a b → IsReached x b
lead-reached x a b (CallsLead.one r w e) = IsReached.next r w e
lead-reached x a b (CallsLead.more l r w e) = IsReached.next r w e

pub lead-from : (x : Calls) (a b : Function) → CallsLead x a b → IsReached x a
lead-from x a b (CallsLead.one r w e) = r
lead-from x a b (CallsLead.more l r w e) = lead-from x a _ l

-- two functions share no word if calls lead from one to the other
pub apart : (x : Calls) (a b : Function) (v : ℕ) → AreFunctions x → CallsLead x a b →
    Lies (function x a) v →
    Lies (function x b) v → ⊥
apart x a b v is l la lb =
    is.once a (subst (λ b. CallsLead x a b)
    (sym (is.same a b v (lead-from x a b l) (lead-reached x a b l) la lb)) l)

-- the head of a function's loop is in the function
pub head-lies : (x : Calls) (a : Function) (j : LoopSetup) → IsAccepted (function x a) →
    Contains (function x a).loops j → Lies (function x a) j.head
head-lies x a j is h = let o = is.ordered j h in record { low = o.0; high = omega arith }
