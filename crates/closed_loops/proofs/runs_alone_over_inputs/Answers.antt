use Rattle.closed_loops.proofs.Inputs.{input-isolation}
use Rattle.closed_loops.proofs.runs_alone_over_inputs.Goals as goal

pub returns : goal.returns
returns c =
    input-isolation c.runs_alone_in_loop.ensures c.takes_inputs_as_plants.ensures.answered
    c.takes_inputs_as_plants.ensures.alone
