use Rattle.std.proofs.Common.{refl}
use Rattle.fp_setup.proofs.bounds.Range.addresses.Goals as goal

pub returns : goal.returns
returns c = refl
