use Rattle.visit_bounds.proofs.Linking.{issues-earlier}
use Rattle.visit_bounds.proofs.Scheduled.{always-set, quiet-keeps}
use Rattle.visit_bounds.proofs.Starts.{start-sets}
use Rattle.visit_bounds.proofs.premises.start_is_set.Goals as goal

pub returns : goal.returns
returns c =
    record { quiet = quiet-keeps; start = always-set; setup = start-sets; earlier = issues-earlier }
