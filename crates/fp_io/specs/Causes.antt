-- Counts of faults, and when a count rose.
use Rattle.std.specs.Prelude.{ℕ, ◌+◌, ◌-◌, ◌^◌, ◌≤◌, min, Bool, if◌then◌else◌}

-- the value at which a count saturates
abbrev pub last_count : ℕ
last_count = 2 ^ 64 - 1

-- a count after one increment
abbrev pub risen : ℕ → ℕ
risen count = min (count + 1) last_count

-- a count after a call that met a fault, or none
abbrev pub risen_if : Bool → ℕ → ℕ
risen_if fault count = if fault then risen count else count

-- a count rose in a call: it is greater after the call than before it, or it is saturated
abbrev pub HasRisen : ℕ → ℕ → Type 0
HasRisen before after = risen before ≤ after
