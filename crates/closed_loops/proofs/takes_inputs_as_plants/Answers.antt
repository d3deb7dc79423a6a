use Rattle.closed_loops.proofs.Inputs.{inputs-answer, inputs-are-loops, phased-inputs-are-loops}
use Rattle.closed_loops.proofs.takes_inputs_as_plants.Goals as goal

pub returns : goal.returns
returns c =
    record { answered = inputs-answer; alone = inputs-are-loops; phased = phased-inputs-are-loops }
