use Rattle.std.proofs.Common.{refl, ap}
use Rattle.selfrun.specs.Text.{selfrun_text, tallies_text}
use Rattle.selfrun.proofs.TallyLemmas.{own_run}
use Rattle.selfrun.proofs.running.Selfrun.new.Goals as goal

pub returns-in-Ok-clause-tallies : goal.returns-in-Ok-clause-tallies
returns-in-Ok-clause-tallies c =
    own_run c.args.number _ _ _ _ c.in-Ok.machine c.tallies.result refl refl
    c.in_ok-ports.ensures.rows c.in-Ok.ensures.refines c.tallies.ensures refl

pub returns-in-Ok-clause-text : goal.returns-in-Ok-clause-text
unfolding selfrun_text
returns-in-Ok-clause-text c = ap tallies_text (returns-in-Ok-clause-tallies c)
