use Rattle.std.proofs.Common.{rules}
use Rattle.setup_model.proofs.registers.modes.Goals as goal

pub unreachable-requires : goal.unreachable-requires
unreachable-requires c = search rules

pub returns : goal.returns
returns c = search rules
