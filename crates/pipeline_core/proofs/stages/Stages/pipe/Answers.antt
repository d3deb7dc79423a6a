use Rattle.pipeline_core.proofs.stages.Stages.pipe.Goals as goal

pub invariant_of-result-clause-pcs : goal.invariant_of-result-clause-pcs
invariant_of-result-clause-pcs c = c.args.self.now.pcs
