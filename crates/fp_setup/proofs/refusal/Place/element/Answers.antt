use Rattle.std.proofs.Common.{refl}
use Rattle.fp_setup.proofs.refusal.Place.element.Goals as goal

pub returns : goal.returns
returns c = refl
