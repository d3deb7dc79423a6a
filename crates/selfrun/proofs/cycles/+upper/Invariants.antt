use Rattle.selfrun.proofs.cycles.+upper.Given as goal

abbrev pub decreases-upper : goal.decreases-upper
decreases-upper l = l.tens
