-- The definitions that each function's proofs open, under one name.
use Rattle.core_model.specs.Issue.{execute_untrapped, execute_in}
use Rattle.hart_exec.specs.Units.{environment_of}
use Rattle.rv_decode.specs.Lag.{lag}

-- an instruction whose result has no trap
unfoldable pub plain : Type 0
unfolding execute_untrapped lag environment_of
plain = Unit

-- an instruction at a pc
unfoldable pub whole : Type 0
unfolding execute_in environment_of
whole = Unit
