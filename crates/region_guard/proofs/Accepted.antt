-- A word is accepted if no nibble of it is refused.
use Rattle.std.proofs.Common.{◌≡◌, ℕ, Option, ap, ◌∙◌}
use Rattle.std.specs.Option.{is_none}
use Rattle.slot_table.specs.Nibbles.{nibbles}
use Rattle.slot_table.proofs.First.{is_none-position}
use Rattle.region_guard.specs.Regions.{is_owner_nibble}
use Rattle.region_guard.specs.RegionsWord.{is_regions, bad_region}

pub accepted_at : (word : ℕ) (bad : Option ℕ) → bad ≡ bad_region word →
    is_none bad ≡ is_regions word
unfolding is_regions
accepted_at word bad e = ap is_none e ∙ is_none-position is_owner_nibble (nibbles word)
