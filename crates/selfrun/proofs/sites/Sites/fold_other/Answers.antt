use Rattle.std.proofs.Common.{rules}
use Rattle.selfrun.proofs.sites.Sites.fold_other.Goals as goal

pub invariant_of-self : goal.invariant_of-self
invariant_of-self c = search rules
