-- The result of building a section with its routines.
use Rattle.region_tree.specs.Refusals.{Nowhere}
use Rattle.call_bounds.specs.CallRefusals.{EscapeAt, IsCallable}
use Rattle.call_bounds.specs.CallRefused.{IsCallRefused, IsTreeRefused}
use Rattle.call_bounds.specs.CallRefused.{AreCallsAllowed, AreFunctionsAllowed}
use Rattle.call_bounds.specs.Calls.{Calls}
use Rattle.call_bounds.specs.declared.tree.CallNo.{CallNo}

-- a function has a cause of refusal of its own
pub call-refused : (x : Calls) (c : CallNo) → AreCallsAllowed x → IsTreeRefused x c →
    IsCallRefused x c
call-refused x (CallNo.Nesting a) n h = (n, h)
call-refused x (CallNo.IndirectJump a) n h = (n, h)
call-refused x (CallNo.TimedWait a) n h = (n, h)
call-refused x (CallNo.UnboundedBackEdge a) n h = (n, h)
call-refused x CallNo.NoMemory n h = tt
call-refused x (CallNo.Overlap a) n h = absurd h
call-refused x (CallNo.Recursion a) n h = absurd h
call-refused x (CallNo.Escape a) n h = absurd h

-- no cause of refusal
pub callable : (x : Calls) → AreCallsAllowed x → AreFunctionsAllowed x →
    Nowhere (EscapeAt x) → IsCallable x
callable x n t e = record {
  overlap = n.0;
  recursion = n.1;
  nesting = t.0;
  indirect = t.1;
  timed = t.2;
  unbounded = t.3;
  escape = e;
}
