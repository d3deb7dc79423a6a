-- An empty pipeline refines the start.
use Rattle.pipeline_core.proofs.Refining.{starts_at}
use Rattle.pipeline_core.proofs.pipe.Pipe.new.Goals as goal

pub returns-clause-refines : goal.returns-clause-refines
returns-clause-refines c = starts_at c.start_refines.ensures c.args.entries
