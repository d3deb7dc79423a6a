use Rattle.call_bounds.proofs.summary.jump_deep.Goals as goal

pub returns : goal.returns
returns c = (c.deep.result, c.deep.ensures, c.chain.ensures.best)
