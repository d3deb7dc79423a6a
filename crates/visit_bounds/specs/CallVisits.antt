-- The visits of a section by one thread, through the routines that it calls.
use Rattle.std.specs.Prelude.{◌≡◌, ◌⊎◌, ℕ, ◌+◌, ◌≤◌, Bool, true, false}
use Rattle.std.specs.Prelude.{cond, Option, Some, None, List, [], ◌∷◌, ◌++◌}
use Rattle.fp_setup.specs.declared.loop_list.LoopSetup.{LoopSetup}
use Rattle.region_tree.specs.Graph.{Lies}
use Rattle.region_tree.specs.Walk.{counter_after}
use Rattle.call_bounds.specs.declared.routines.Routine.{Routine}
use Rattle.visit_bounds.specs.Visits.{Issued, first_of}
use Rattle.call_bounds.specs.Calls.{Calls, Counts, callee, is_back, function}
use Rattle.call_bounds.specs.CallWalk.{counter_after_call, function_in}

-- the open calls, the newest first, without the newest one
abbrev pub without : List ℕ → List ℕ
without [] = []
without (w ∷ s) = s

-- the open calls after one word, from those before it: a call is added, and a return takes one away
abbrev pub open_after : Option Routine → Bool → ℕ → List ℕ → List ℕ
open_after (Some t) back u s = u ∷ s
open_after None back u s = cond back (without s) s

-- the open calls at the issue after these, the newest first
abbrev pub open_at : Calls → List Issued → List ℕ
open_at x [] = []
open_at x (i ∷ before) = open_after (callee x i.pc) (is_back (x.word i.pc)) i.pc (open_at x before)

-- each is in its function and doesn't trap
abbrev pub StaysInFunctions : Calls → List Issued → Type 0
StaysInFunctions x [] = Unit {0}
StaysInFunctions x (i ∷ before) =
    StaysInFunctions x before
    × Lies (function x (function_in x (open_at x before))) i.pc × (i.traps ≡ false)

-- A call visit: issues in order, the newest first, among all those of the thread. The first is at
-- the section's first word. The last is the first of them that is outside its function or traps; if
-- there is none, it is the thread's last one.
pub record IsCallVisit (x : Calls) (issues : List Issued) (last : Issued)
    (before : List Issued) : Type 0 where
  pub earlier : List Issued
  pub later : List Issued
  pub among : issues ≡ later ++ (last ∷ (before ++ earlier))
  pub starts : (first_of last before).pc ≡ x.section.from
  pub goes_on : StaysInFunctions x before
  pub ends : (later ≡ [])
      ⊎ ((Lies (function x (function_in x (open_at x before))) last.pc → ⊥) ⊎ (last.traps ≡ true))

-- an issue after a return is at the word after the newest open call, if one is open
abbrev pub ComesBack : List ℕ → Bool → ℕ → Type 0
ComesBack [] back v = Unit {0}
ComesBack (w ∷ s) true v = v ≡ w + 4
ComesBack (w ∷ s) false v = Unit {0}

-- each return leads to the word after the newest open call, where one is open
abbrev pub KeepsReturns : Calls → Issued → List Issued → Type 0
KeepsReturns x last [] = Unit {0}
KeepsReturns x last (i ∷ before) =
    KeepsReturns x i before × ComesBack (open_at x before) (is_back (x.word i.pc)) last.pc

-- a loop's counter after a word u with open calls s, at the word v after it
abbrev pub counted_after : Option Routine → Bool → List ℕ → ℕ → ℕ → LoopSetup → ℕ → ℕ
counted_after (Some t) back s u v j n = counter_after_call t j n
counted_after None true [] u v j n = counter_after u v j n
counted_after None true (w ∷ s) u v j n = counter_after w (w + 4) j n
counted_after None false s u v j n = counter_after u v j n

-- a loop's counter at an issue: 0 at the first
abbrev pub counter_at : Calls → LoopSetup → Issued → List Issued → ℕ
counter_at x j last [] = 0
counter_at x j last (i ∷ before) =
    counted_after (callee x i.pc) (is_back (x.word i.pc)) (open_at x before) i.pc last.pc j
    (counter_at x j i before)

-- no counter ever passes its loop's bound
abbrev pub KeepsCallBounds : Calls → Issued → List Issued → Type 0
KeepsCallBounds x last [] = Unit {0}
KeepsCallBounds x last (i ∷ before) =
    KeepsCallBounds x i before
    × ((j : LoopSetup) → Counts x j → counter_at x j last (i ∷ before) ≤ j.limit)
