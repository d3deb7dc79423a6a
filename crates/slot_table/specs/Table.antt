-- The slots register as a type.
use Rattle.std.specs.Prelude.{ℕ, ◌+◌, ◌-◌, ◌/◌, ◌%◌, ◌^◌, max, Bool, not, List, ◌++◌, length}
use Rattle.std.specs.Prelude.{replicate, position, Option, Some, None, Result, Ok, Err}
use Rattle.std.specs.List.{list_all}
use Rattle.slot_table.specs.Nibbles.{nibbles}
use Rattle.slot_table.specs.declared.frame.Frame.{Frame}
use Rattle.slot_table.specs.declared.frame.BadSlot.{BadSlot}
use Rattle.slot_table.specs.Frame.{disabled_slot, is_slot}

-- whether a word is allowed in the register
unfoldable pub is_table : ℕ → Bool
is_table word = list_all is_slot (nibbles word)

-- the first slot that is refused
abbrev pub bad_slot : ℕ → Option ℕ
bad_slot word = position (λ nibble. not (is_slot nibble)) (nibbles word)

-- the word, unless a slot is refused. Region registers have a refusal of another type
abbrev pub unless_bad : ℕ → Option ℕ → Result ℕ BadSlot
unless_bad word None = Ok word
unless_bad word (Some index) = Err (record { index = index })

-- the word unchanged if it is accepted, else the lowest refused slot
unfoldable pub table_of : ℕ → Result ℕ BadSlot
table_of word = unless_bad word (bad_slot word)

-- the slots of a frame in eight positions; positions past its end are disabled
abbrev pub in_positions : List ℕ → List ℕ
in_positions slots = slots ++ replicate (8 - length slots) disabled_slot

-- the position of each cycle below this one is computed by a multiplication
abbrev pub early : ℕ
early = 2 ^ 61

-- 2 ^ 64 by a length, rounded up, in 64 bits
abbrev pub magic_of : ℕ → ℕ
magic_of len = (18446744073709551615 / max len 1 + 1) % 18446744073709551616

-- the layout of a frame, by its slots in order
abbrev pub laid_out : List ℕ → Frame
laid_out slots =
    record { slots = in_positions slots; len = length slots; magic = magic_of (length slots) }
