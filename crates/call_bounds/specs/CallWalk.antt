-- Paths with matching calls and returns, through a section and the routines that it calls.
use Rattle.std.specs.Prelude.{◌≡◌, ℕ, ◌+◌, ◌≤◌, ◌^◌, ◌==◌, if◌then◌else◌}
use Rattle.std.specs.Prelude.{true, Some, None, List, [], ◌∷◌, Contains}
use Rattle.rv_decode.specs.Lag.{redirect_lag}
use Rattle.bound_calc.specs.Bound.{positions}
use Rattle.bound_calc.specs.declared.cycle_bound.BoundNo.{BoundNo}
use Rattle.bound_calc.specs.declared.cycle_bound.BoundNo.TheVariants.{NoMemory, Overflow}
use Rattle.fp_setup.specs.declared.loop_list.LoopSetup.{LoopSetup}
use Rattle.region_tree.specs.Graph.{Edge, Lies}
use Rattle.region_tree.specs.Walk.{IsNextTurn, IsOwn, Positions, counter_after}
use Rattle.call_bounds.specs.declared.routines.Routine.{Routine}
use Rattle.call_bounds.specs.Calls.{Calls, Counts, Function, callee, is_back, function, plain_edges}

-- the calls and the positions that such paths use
pub record Route : Type 0 where
  pub calls : Calls
  pub positions : Positions

-- the paths of a thread, by its slots
abbrev pub route : Calls → ℕ → ℕ → Route
route x slots thread = record { calls = x; positions = positions slots thread }

-- the function of a path that has these calls open, the newest first
abbrev pub function_in : Calls → List ℕ → Function
function_in x [] = None
function_in x (w ∷ open_calls) = callee x w

-- a loop's counter after a call of a routine: 0 if the routine's head is the loop's
unfoldable pub counter_after_call : Routine → LoopSetup → ℕ → ℕ
counter_after_call r j n = if r.head == j.head then 0 else n

-- no counter of a loop that counts is above its loop's bound
abbrev pub WithinBounds : Calls → (LoopSetup → ℕ) → Type 0
WithinBounds x k = (j : LoopSetup) → Counts x j → k j ≤ j.limit

-- A path with matching calls and returns that keeps the bounds, from the section's first word at
-- own position p: the word and position that it has come to, the calls that are open there, the
-- newest first, its cost, and the counters.
pub data CallWalk (x : Route) (p : ℕ) : ℕ → ℕ → List ℕ → ℕ → (LoopSetup → ℕ) → Type 0 where
  start : IsOwn x.positions p → CallWalk x p x.calls.section.from p [] 0 (λ _. 0)
  along : {u q c d r : ℕ} {s : List ℕ} {k : LoopSetup → ℕ} (e : Edge) → CallWalk x p u q s c k →
      Contains (plain_edges x.calls u) e → Lies (function x.calls (function_in x.calls s)) e.to →
      IsNextTurn x.positions e.lag q d r →
      WithinBounds x.calls (λ j. counter_after u e.to j (k j)) →
      CallWalk x p e.to r s (c + d) (λ j. counter_after u e.to j (k j))
  enter : {u q c d r : ℕ} {s : List ℕ} {k : LoopSetup → ℕ} {t : Routine} → CallWalk x p u q s c k →
      callee x.calls u ≡ Some t → IsNextTurn x.positions redirect_lag q d r →
      CallWalk x p t.head r (u ∷ s) (c + d) (λ j. counter_after_call t j (k j))
  come_back : {u q w c d r : ℕ} {s : List ℕ} {k : LoopSetup → ℕ} → CallWalk x p u q (w ∷ s) c k →
      is_back (x.calls.word u) ≡ true → Lies (function x.calls (function_in x.calls s)) (w + 4) →
      IsNextTurn x.positions redirect_lag q d r →
      WithinBounds x.calls (λ j. counter_after w (w + 4) j (k j)) →
      CallWalk x p (w + 4) r s (c + d) (λ j. counter_after w (w + 4) j (k j))

-- The costs of such paths: a path may end anywhere. A step out of the section ends it, also a
-- return to an address outside.
pub data CostsOf (x : Route) : ℕ → Type 0 where
  ends : {p u q c : ℕ} {s : List ℕ} {k : LoopSetup → ℕ} → CallWalk x p u q s c k → CostsOf x c
  leaves : {p u q c d r : ℕ} {k : LoopSetup → ℕ} (e : Edge) → CallWalk x p u q [] c k →
      Contains (plain_edges x.calls u) e →
      (Lies (function x.calls None) e.to → ⊥) → IsNextTurn x.positions e.lag q d r →
      CostsOf x (c + d)
  goes_back : {p u q w c d r : ℕ} {k : LoopSetup → ℕ} → CallWalk x p u q (w ∷ []) c k →
      is_back (x.calls.word u) ≡ true →
      (Lies (function x.calls None) (w + 4) → ⊥) → IsNextTurn x.positions redirect_lag q d r →
      CostsOf x (c + d)

-- The largest cost of a path that keeps the bounds: some path costs it, and none costs more.
pub record IsCallBound (x : Route) (b : ℕ) : Type 0 where
  pub met : CostsOf x b
  pub kept : (c : ℕ) → CostsOf x c → c ≤ b

-- Why there is no bound: some path costs 2 ^ 64 or more, and the value is 2 ^ 64; or memory ran
-- out.
abbrev pub IsTooCostly : Route → BoundNo → Type 0
IsTooCostly x (Overflow value) = (value ≡ 2 ^ 64) × ((c : ℕ) × CostsOf x c × (2 ^ 64 ≤ c))
IsTooCostly x NoMemory = Unit {0}
