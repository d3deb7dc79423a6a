use Rattle.std.proofs.Common.{refl}
use Rattle.slot_table.specs.Nibbles.{nibbles}
use Rattle.slot_table.proofs.nibbles.nibbles_of.Goals as goal

pub returns : goal.returns
unfolding nibbles
returns c = refl
