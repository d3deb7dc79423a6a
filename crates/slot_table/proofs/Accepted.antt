-- A word is accepted if no slot of it is refused.
use Rattle.std.proofs.Common.{◌≡◌, ℕ, Option, ap, ◌∙◌}
use Rattle.std.specs.Option.{is_none}
use Rattle.slot_table.specs.Nibbles.{nibbles}
use Rattle.slot_table.proofs.First.{is_none-position}
use Rattle.slot_table.specs.Frame.{is_slot}
use Rattle.slot_table.specs.Table.{is_table, bad_slot}

pub accepted_at : (word : ℕ) (bad : Option ℕ) → bad ≡ bad_slot word → is_none bad ≡ is_table word
unfolding is_table
accepted_at word bad e = ap is_none e ∙ is_none-position is_slot (nibbles word)
