-- Only plain edges cause the refusal of a function.
use Rattle.std.specs.Prelude.{ℕ, Contains}
use Rattle.region_tree.specs.Refusals.{UnboundedAt}
use Rattle.region_tree.specs.Nesting.{EnteredAt}
use Rattle.call_bounds.specs.CallRefusals.{IsListing}
use Rattle.call_bounds.specs.Calls.{Calls, IsReached, Function, function, plain_edges}

-- An edge that enters a loop elsewhere than at its head is no call. Neither is a back edge without
-- a bound.
abbrev pub RowsNamePlainEdges : Type 0
RowsNamePlainEdges = (x : Calls) → IsListing x → (p : Function) → IsReached x p →
    ((a : ℕ) → (h : EnteredAt (function x p) a) → Contains (plain_edges x h.from) h.by) ×
    ((u : ℕ) → (h : UnboundedAt (function x p) u) → Contains (plain_edges x u) h.by)
