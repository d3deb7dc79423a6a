use Rattle.call_bounds.proofs.summary.jump_through.Goals as goal

pub returns : goal.returns
returns c = (c.through.result, c.through.ensures, c.chain.ensures.best)
