use Rattle.std.proofs.Common.{rules}
use Rattle.region_guard.specs.Regions.{may_store, region_kind, region_of}
use Rattle.region_guard.proofs.access.Guard.may_store.Goals as goal

pub returns-then-is_data : goal.returns-then-is_data
unfolding may_store region_kind region_of
returns-then-is_data c = search rules
