-- The rules of the words that are fed to a port.
use Rattle.std.specs.Prelude.{ℕ, ◌<◌, ◌≤◌, List, length}
use Rattle.std.specs.List.{All, AllPairs}
use Rattle.timer_unit.specs.Time.{most_cycles}
use Rattle.fp_setup.specs.declared.input_list.Input.{Input}

-- the most inputs of a thread
abbrev pub most_inputs : ℕ
most_inputs = 4096

-- not too many, and each at a later cycle than those before
pub record AreInputs (inputs : List Input) : Type 0 where
  pub few : length inputs ≤ most_inputs
  pub within : All (λ (i : Input). i.at ≤ most_cycles) inputs
  pub rising : AllPairs (λ (i j : Input). i.at < j.at) inputs
