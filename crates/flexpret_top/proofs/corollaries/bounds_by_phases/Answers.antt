use Rattle.flexpret_top.proofs.SimplerPremises.{by-phases, calls-by-phases}
use Rattle.flexpret_top.proofs.corollaries.bounds_by_phases.Goals as goal

pub returns : goal.returns
returns c = record {
  sections = by-phases c.phase_is_set.ensures;
  calls = calls-by-phases c.phase_is_set.ensures;
}
