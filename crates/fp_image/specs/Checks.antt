-- Checks of a file in their order: the fault is that of the first one that fails. They define the
-- readers of images, executables and lists of routines.
use Rattle.std.specs.Prelude.{Bool, if◌then◌else◌, List, [], ◌∷◌}
use Rattle.std.specs.Prelude.{Option, Some, None, Result, Ok, Err}

-- A check: whether it fails, and its fault.
pub record Check (E : Type 0) : Type 0 where
  pub fails : Bool
  pub fault : E

-- the fault of the first check that fails
abbrev pub first_fault : {E : Type 0} → List (Check E) → Option E
first_fault [] = None
first_fault (c ∷ more) = if c.fails then Some c.fault else first_fault more

-- a result if no check fails
abbrev pub unless : {A E : Type 0} → Option E → A → Result A E
unless (Some fault) value = Err fault
unless None value = Ok value

-- a result that continues another one
abbrev pub and_then : {A B E : Type 0} → Result A E → (A → Result B E) → Result B E
and_then (Ok value) next = next value
and_then (Err fault) next = Err fault
