use Rattle.std.proofs.Common.{rules}
use Rattle.solo_run.proofs.region_kind.RegionKind.number.Goals as goal

pub returns-in-Shared-clause-number : goal.returns-in-Shared-clause-number
returns-in-Shared-clause-number c = search rules
