-- The configuration registers in the types of the code.
use Rattle.std.proofs.Common.{◌≡◌, ℕ, Option, Some, None, sym}
use Rattle.std.specs.Prelude.{Ok}
use Rattle.region_guard.specs.declared.access.Guard.{Guard}
use Rattle.region_guard.specs.Regions.{IsSize, IsSize-prop}
use Rattle.region_guard.specs.RegionsWord.{regions_of, bad_region, unless_bad}
use Rattle.slot_table.specs.Table.{table_of, bad_slot}
use Rattle.slot_table.specs.Table as slots

-- an accepted word is stored unchanged
pub slots_kept : (word held : ℕ) → Ok held ≡ table_of word → held ≡ word
unfolding table_of
slots_kept word held e = go (bad_slot word) (sym e)
  where
    go : (bad : Option ℕ) → slots.unless_bad word bad ≡ Ok held → held ≡ word
    go None e = cc
    go (Some index) e = cc

pub regions_kept : (word held : ℕ) → Ok held ≡ regions_of word → held ≡ word
unfolding regions_of
regions_kept word held e = go (bad_region word) (sym e)
  where
    go : (bad : Option ℕ) → unless_bad word bad ≡ Ok held → held ≡ word
    go None e = cc
    go (Some index) e = cc

abbrev guard : (i d size : ℕ) → IsSize size → Guard
guard i d size p = record { i = i; d = d; size = size; sized = p }

-- guards with the same words are the same
pub same_guard : (i j d e size : ℕ) (p q : IsSize size) → i ≡ j → d ≡ e →
    guard i d size p ≡ guard j e size q
same_guard i j d e size p q h k =
    λ t. record { i = h t; d = k t; size = size; sized = IsSize-prop size p q t }
