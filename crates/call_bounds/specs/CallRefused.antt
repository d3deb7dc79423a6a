-- The refusal of a section with routines.
use Rattle.region_tree.specs.Refusals.{IndirectAt, IsLowest, Nowhere, TimedAt, UnboundedAt}
use Rattle.region_tree.specs.Nesting.{NestingAt}
use Rattle.call_bounds.specs.CallRefusals.{EscapeAt, InFunctions, OverlapAt, RecursionAt}
use Rattle.call_bounds.specs.Calls.{Calls}
use Rattle.call_bounds.specs.declared.tree.CallNo.{CallNo}
use Rattle.call_bounds.specs.declared.tree.CallNo.TheVariants.{Escape, IndirectJump, Nesting}
use Rattle.call_bounds.specs.declared.tree.CallNo.TheVariants.{NoMemory, Overlap, Recursion}
use Rattle.call_bounds.specs.declared.tree.CallNo.TheVariants.{TimedWait, UnboundedBackEdge}

-- Neither of the first two causes holds anywhere.
abbrev pub AreCallsAllowed : Calls → Type 0
AreCallsAllowed x = Nowhere (OverlapAt x) × Nowhere (RecursionAt x)

-- none of the causes of a single function holds in a reached function
abbrev pub AreFunctionsAllowed : Calls → Type 0
AreFunctionsAllowed x = Nowhere (InFunctions x NestingAt) × Nowhere (InFunctions x IndirectAt) ×
    Nowhere (InFunctions x TimedAt) × Nowhere (InFunctions x UnboundedAt)

-- Why some reached function is refused: the first of its causes that holds anywhere, with the
-- lowest address.
abbrev pub IsTreeRefused : Calls → CallNo → Type 0
IsTreeRefused x (Nesting a) = IsLowest (InFunctions x NestingAt) a
IsTreeRefused x (IndirectJump a) = Nowhere (InFunctions x NestingAt) × IsLowest (InFunctions x
    IndirectAt) a
IsTreeRefused x (TimedWait a) = Nowhere (InFunctions x NestingAt) × Nowhere (InFunctions x
    IndirectAt) ×
    IsLowest (InFunctions x TimedAt) a
IsTreeRefused x (UnboundedBackEdge a) =
    Nowhere (InFunctions x NestingAt) × Nowhere (InFunctions x IndirectAt) × Nowhere (InFunctions
    x TimedAt) ×
    IsLowest (InFunctions x UnboundedAt) a
IsTreeRefused x NoMemory = Unit {0}
IsTreeRefused x _ = ⊥

-- The first cause that holds anywhere, with the lowest address. Memory may run out in any case.
abbrev pub IsCallRefused : Calls → CallNo → Type 0
IsCallRefused x (Overlap a) = IsLowest (OverlapAt x) a
IsCallRefused x (Recursion a) = Nowhere (OverlapAt x) × IsLowest (RecursionAt x) a
IsCallRefused x (Escape a) = AreCallsAllowed x × AreFunctionsAllowed x × IsLowest (EscapeAt x) a
IsCallRefused x NoMemory = Unit {0}
IsCallRefused x refusal = AreCallsAllowed x × IsTreeRefused x refusal
