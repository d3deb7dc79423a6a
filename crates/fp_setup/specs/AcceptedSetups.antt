-- The theorem of accepted setups.
use Rattle.std.specs.Prelude.{◌≡◌, ℕ, List, Ok}
use Rattle.fp_setup.specs.Rules.{KeepsRules}
use Rattle.fp_setup.specs.Settings.{Settings}
use Rattle.fp_setup.specs.Setup.{setup}

-- the setup of a file's bytes, if accepted, keeps the rules
abbrev pub AcceptedKeepRules : Type 0
AcceptedKeepRules = (bytes : List ℕ) (s : Settings) → setup bytes ≡ Ok s → KeepsRules s
