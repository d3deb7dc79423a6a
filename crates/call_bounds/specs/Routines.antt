-- The rules of routines, for scratchpads of any size.
use Rattle.std.specs.Prelude.{◌≡◌, ◌%◌, ◌<◌, ◌≤◌, List, [], ◌∷◌, length, Contains, ℕ, ◌-◌}
use Rattle.call_bounds.specs.declared.routines.Routine.{Routine}
use Rattle.region_guard.specs.MemoryMap.{large_size}

-- each routine begins above the one before it
abbrev pub Rise : List Routine → Type 0
Rise [] = Unit {0}
Rise (r ∷ rs) = ((t : Routine) → Contains rs t → r.last < t.head) × Rise rs

-- A routine that may be listed: aligned, not empty, and inside the largest scratchpad.
pub record IsRoutine (r : Routine) : Type 0 where
  pub head_aligned : r.head % 4 ≡ 0
  pub last_aligned : r.last % 4 ≡ 0
  pub order : r.head ≤ r.last
  pub end : r.last ≤ large_size - 4

-- how many routines may be listed
abbrev pub most_routines : ℕ
most_routines = 64

-- Routines that may be listed: each keeps the rules, and begins above the one before it.
pub record AreRoutines (rs : List Routine) : Type 0 where
  pub few : length rs ≤ most_routines
  pub each : (r : Routine) → Contains rs r → IsRoutine r
  pub rise : Rise rs
