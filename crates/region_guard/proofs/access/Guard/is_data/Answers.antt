use Rattle.std.proofs.Common.{rules}
use Rattle.region_guard.proofs.access.Guard.is_data.Goals as goal

pub returns : goal.returns
returns c = search rules
