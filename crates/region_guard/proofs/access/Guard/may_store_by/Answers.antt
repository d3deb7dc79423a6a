use Rattle.std.proofs.Common.{rules}
use Rattle.region_guard.specs.Regions.{may_store, region_kind, region_of}
use Rattle.region_guard.proofs.access.Guard.may_store_by.Goals as goal

pub returns : goal.returns
unfolding may_store region_kind region_of
returns c = search rules
