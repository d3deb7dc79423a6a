-- The words that a thread reads at its port, cycle by cycle.
use Rattle.std.specs.Prelude.{ℕ, Bool, false, List, map, reverse, Option, Some, None}
use Rattle.std.specs.Prelude.{option_map, unwrap_or, find, nat_le, if◌then◌else◌}
use Rattle.std.specs.List.{range_with_len}
use Rattle.fp_ports.specs.PluggedPorts.{Row, absent_word}

-- the cycle is at or after the one from which the port is gone, if there is one
abbrev pub is_gone : Option ℕ → ℕ → Bool
is_gone None c = false
is_gone (Some unplug) c = nat_le unplug c

-- the word of the last input whose cycle is at most c; the inputs are pairs of a cycle and a word
abbrev pub input_at : List (ℕ × ℕ) → ℕ → Option ℕ
input_at inputs c =
    option_map (λ input. input.1) (find (λ input. nat_le input.0 c) (reverse inputs))

-- the word of an optional port that was fed the inputs: the input's word, and before the first
-- input the port's own; `absent_word` if no port was handed in or it was removed
abbrev pub shown_at : Option Row → List (ℕ × ℕ) → Option ℕ → ℕ → ℕ
shown_at None inputs unplug c = absent_word
shown_at (Some row) inputs unplug c =
    if is_gone unplug c then absent_word else unwrap_or (input_at inputs c) (row.words c)

-- the words of the first n cycles
abbrev pub shown : Option Row → List (ℕ × ℕ) → Option ℕ → ℕ → List ℕ
shown row inputs unplug n = map (shown_at row inputs unplug) (range_with_len 0 n)
