-- The upper digits of a cycle that are reused in a line's text.
use Rattle.std.specs.Prelude.{◌≡◌, ℕ, ◌+◌, ◌/◌, ◌%◌, ◌^◌, ◌<◌, List, ◌++◌, take}
use Rattle.trace_print.specs.Digits.{two_digits, right}

-- the first six bytes are the upper six of the ten columns of each of the 10,000 cycles from
-- `first` on
abbrev pub IsKept : ℕ → List ℕ → Type 0
IsKept first text =
    (lower : ℕ) → lower < 10000 → first + lower < 10 ^ 10 →
    right 10 (first + lower) ≡ take 6 text ++ (two_digits (lower / 100) ++ two_digits (lower % 100))
