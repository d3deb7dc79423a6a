use Rattle.flexpret_top.proofs.SimplerPremises.{quiet-isolation, quiet-isolation-by-phases}
use Rattle.flexpret_top.proofs.corollaries.isolates_in_quiet_runs.Goals as goal

pub returns : goal.returns
returns c = record { by_view = quiet-isolation; by_phases = quiet-isolation-by-phases }
