use Rattle.std.proofs.Common.{rules}
use Rattle.region_guard.specs.Regions.{region_kind}
use Rattle.region_guard.proofs.register.is_readable.Goals as goal

pub returns-else-nibble-thread : goal.returns-else-nibble-thread
unfolding region_kind
returns-else-nibble-thread c = search rules
