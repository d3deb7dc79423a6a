use Rattle.phase_log.proofs.run.begun.Goals as goal

pub returns : goal.returns
returns c = rw c.in-Csr.is c.begun_by_write.ensures
