-- The bound through calls bounds a visit during which the slots and the thread's mode don't change.
use Rattle.std.specs.Prelude.{◌≡◌, ℕ, ◌-◌, ◌<◌, ◌≤◌, List, length}
use Rattle.core_model.specs.Memory.{code_at}
use Rattle.core_model.specs.World.{Start, world}
use Rattle.visit_bounds.specs.Visits.{Issued, first_of, issues_of}
use Rattle.call_bounds.specs.Calls.{Calls}
use Rattle.call_bounds.specs.CallRefusals.{IsCallable, IsListing}
use Rattle.call_bounds.specs.CallWalk.{CostsOf, route}
use Rattle.visit_bounds.specs.CallVisitBound.{IsMet}
use Rattle.visit_bounds.specs.CallVisits.{IsCallVisit, KeepsCallBounds, KeepsReturns}
use Rattle.visit_bounds.specs.InSettings.{IsSet, Throughout}

-- a machine whose memory has the reachable words of the reached functions, as far as the scratchpad
-- goes
pub record HasWordsOfFunctions (s : Start) (x : Calls) : Type 0 where
  pub eight : length s.threads ≡ 8
  pub same_words : (u : ℕ) → IsMet x u → u < s.size → code_at s.size s.i_words u ≡ x.word u

-- In a run of such a machine a call visit takes no longer than any upper bound on the cost of the
-- paths with matching calls and returns. This holds if picking uses these slots and a hard active
-- mode of the thread during the visit. The visit's returns must match its calls, and it must keep
-- the stated bounds of the loops.
abbrev pub CallVisitsAreBoundedInSettings : Type 0
CallVisitsAreBoundedInSettings =
    (x : Calls) (slots thread b : ℕ) (s : Start) (n : ℕ) → IsListing x →
    IsCallable x → ((c : ℕ) → CostsOf (route x slots thread) c → c ≤ b) →
    HasWordsOfFunctions s x → (last : Issued) (before : List Issued) →
    Throughout (IsSet s slots thread) (first_of last before).cycle last.cycle →
    IsCallVisit x (issues_of thread (world s n).turns) last before → KeepsReturns x last before →
    KeepsCallBounds x last before → last.cycle - (first_of last before).cycle ≤ b
