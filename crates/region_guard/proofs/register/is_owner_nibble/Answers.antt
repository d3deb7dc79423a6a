use Rattle.std.proofs.Common.{rules}
use Rattle.region_guard.proofs.register.is_owner_nibble.Goals as goal

pub returns-else-nibble-le-SHARED : goal.returns-else-nibble-le-SHARED
returns-else-nibble-le-SHARED c = search rules
