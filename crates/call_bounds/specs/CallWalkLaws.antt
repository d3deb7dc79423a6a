-- Theorems about paths with matching calls and returns.
use Rattle.std.specs.Prelude.{ℕ, ◌≤◌, ◌↔◌}
use Rattle.call_bounds.specs.CallRefusals.{IsCallable, IsListing}
use Rattle.call_bounds.specs.CallWalk.{CostsOf, IsCallBound, Route}
use Rattle.call_bounds.specs.Runs.{Nested}

-- Such paths have the costs of nested paths of functions. In these a call is a whole path of its
-- routine, or the last piece of the path.
abbrev pub CallWalksCostAsFunctions : Type 0
CallWalksCostAsFunctions = (x : Route) → IsListing x.calls → IsCallable x.calls → (c : ℕ) →
    CostsOf x c ↔ Nested x c

-- So the largest cost of nested paths is the bound.
abbrev pub FunctionsHaveTheBound : Type 0
FunctionsHaveTheBound =
    (x : Route) → IsListing x.calls → IsCallable x.calls → (b : ℕ) → Nested x b →
    ((c : ℕ) → Nested x c → c ≤ b) → IsCallBound x b
