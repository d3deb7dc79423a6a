-- The kinds of a scratchpad's regions for the thread: the code's values as those of the
-- definitions.
use Rattle.std.specs.Prelude.{ℕ, ◌==◌, if◌then◌else◌, List, map}
use Rattle.region_guard.specs.Regions.{RegionKind}
use Rattle.region_guard.specs.Regions.RegionKind.{Mine as mine, ReadOnly as read_only}
use Rattle.region_guard.specs.Regions.RegionKind.{Shared as shared, Foreign as foreign}
use Rattle.solo_run.specs.declared.region_kind.RegionKind.{RegionKind as Given}
use Rattle.solo_run.specs.declared.region_kind.RegionKind.TheVariants.{Mine, ReadOnly}
use Rattle.solo_run.specs.declared.region_kind.RegionKind.TheVariants.{Shared, Foreign}

abbrev pub abstract_kind : Given → RegionKind
abstract_kind Mine = mine
abstract_kind ReadOnly = read_only
abstract_kind Shared = shared
abstract_kind Foreign = foreign

abbrev pub abstract_kinds : List Given → List RegionKind
abstract_kinds kinds = map abstract_kind kinds

-- a kind, from its number in a view
abbrev pub kind_of_number : ℕ → RegionKind
kind_of_number number =
    if number == 0 then mine
    else if number == 1 then read_only
    else if number == 2 then shared
    else foreign

abbrev pub kinds_of_numbers : List ℕ → List RegionKind
kinds_of_numbers numbers = map kind_of_number numbers
