-- Calls that are listed as failing, by their number, counted from 0.
use Rattle.std.specs.Prelude.{◌≡◌, ℕ, zero, suc, ◌+◌, ◌<◌, ◌==◌, Bool, true, List}
use Rattle.std.specs.Prelude.{Option, option_map, is_some, find, if◌then◌else◌}
use Rattle.std.specs.List.{list_any}
use Rattle.fp_io.specs.declared.memory_sink.Cut.{Cut}
use Rattle.fp_io.specs.Causes.{last_count}

-- the call is among those listed
abbrev pub is_listed : List ℕ → ℕ → Bool
is_listed failing call = list_any (λ listed. listed == call) failing

-- the most bytes that a call takes, if it is cut; the first listing of the call counts
abbrev pub cut_of : List Cut → ℕ → Option ℕ
cut_of cuts call = option_map (λ cut. cut.taken) (find (λ cut. cut.call == call) cuts)

-- the call is among those that are cut
abbrev pub is_cut : List Cut → ℕ → Bool
is_cut cuts call = is_some (cut_of cuts call)

-- the number of listed calls among the first n
unfoldable pub listed_before : (ℕ → Bool) → ℕ → ℕ
listed_before lists zero = 0
listed_before lists (suc n) = listed_before lists n + (if lists n then 1 else 0)

-- each listed call is below the value at which the number of calls saturates
abbrev pub AreBelowLast : (ℕ → Bool) → Type 0
AreBelowLast lists = (call : ℕ) → lists call ≡ true → call < last_count
