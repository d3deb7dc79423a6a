-- The definitions that each function's proofs open, under one name.
use Rattle.pipe_model.specs.Stages.{retired_event}

-- the turn that retires
unfoldable pub turn : Type 0
unfolding retired_event
turn = Unit
