use Rattle.bound_calc.proofs.powers.+power.Given as goal

abbrev pub decreases-power : goal.decreases-power
decreases-power l = l.times
