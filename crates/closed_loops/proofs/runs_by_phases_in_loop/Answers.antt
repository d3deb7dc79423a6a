use Rattle.closed_loops.proofs.PhasedAlone.{phased-loops}
use Rattle.closed_loops.proofs.runs_by_phases_in_loop.Goals as goal

pub returns : goal.returns
returns c = phased-loops
