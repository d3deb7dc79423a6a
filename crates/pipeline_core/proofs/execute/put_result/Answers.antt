-- The returned bool is that of the redirect.
use Rattle.pipeline_core.proofs.Issue.{redirecting}
use Rattle.pipeline_core.proofs.execute.put_result.Goals as goal

pub returns-clause-redirect : goal.returns-clause-redirect
returns-clause-redirect c =
    redirecting _ _ c.args.thread c.args.done.now.pc _ c.in-Some.ensures.flush
