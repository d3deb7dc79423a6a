-- A register keeps the word that it accepts.
use Rattle.std.proofs.Common.{◌≡◌, ℕ, Option, Some, None, Result, Ok}
use Rattle.slot_table.specs.declared.frame.BadSlot.{BadSlot}
use Rattle.slot_table.specs.Table as slots
use Rattle.region_guard.specs.declared.register.BadRegion.{BadRegion}
use Rattle.region_guard.specs.RegionsWord as regions

table_kept : (word : ℕ) (bad : Option ℕ) (kept : ℕ) →
    slots.unless_bad word bad ≡ Ok kept → kept ≡ word
table_kept word None kept e = cc
table_kept word (Some index) kept e = cc

pub table-kept : (word kept : ℕ) (r : Result ℕ BadSlot) → r ≡ slots.table_of word →
    r ≡ Ok kept → kept ≡ word
unfolding slots.table_of
table-kept word kept r is ok =
    let e : slots.table_of word ≡ Ok kept = cc in table_kept word (slots.bad_slot word) kept e

regions_kept : (word : ℕ) (bad : Option ℕ) (kept : ℕ) →
    regions.unless_bad word bad ≡ Ok kept → kept ≡ word
regions_kept word None kept e = cc
regions_kept word (Some index) kept e = cc

pub regions-kept : (word kept : ℕ) (r : Result ℕ BadRegion) → r ≡ regions.regions_of word →
    r ≡ Ok kept → kept ≡ word
unfolding regions.regions_of
regions-kept word kept r is ok =
    let e : regions.regions_of word ≡ Ok kept = cc in
    regions_kept word (regions.bad_region word) kept e
