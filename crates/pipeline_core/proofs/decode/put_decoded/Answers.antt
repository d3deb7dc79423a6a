use Rattle.pipeline_core.proofs.Turns.{of_issue}
use Rattle.pipeline_core.proofs.decode.put_decoded.Goals as goal

pub returns : goal.returns
returns c = of_issue c.args.thread c.args.what c.requires
