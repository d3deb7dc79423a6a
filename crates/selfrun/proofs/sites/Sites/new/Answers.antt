use Rattle.std.proofs.Common.{subst, sym}
use Rattle.std.proofs.lemmas.List.{get_or-replicate}
use Rattle.selfrun.specs.Folds.{IsSite}
use Rattle.selfrun.proofs.sites.Sites.new.Goals as goal

pub invariant_of-result : goal.invariant_of-result
invariant_of-result c =
    λ n below.
    subst IsSite (sym (get_or-replicate 1024 n c.site_of.result _ below)) c.site_of.ensures.is
