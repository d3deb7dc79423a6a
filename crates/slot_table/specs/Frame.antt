-- The slots register: eight slots. Those that aren't disabled form the frame.
use Rattle.std.specs.Prelude.{ℕ, ◌<◌, ◌%◌, ◌==◌, nat_lt, Bool, not, ◌||◌, if◌then◌else◌}
use Rattle.std.specs.Prelude.{List, [], ◌∷◌, slice_index_or, filter, length}
use Rattle.slot_table.specs.Nibbles.{nibbles}
use Rattle.slot_table.specs.declared.frame.Turn.{Turn}
use Rattle.slot_table.specs.declared.frame.Turn.TheVariants.{Thread, Soft, Nobody}

-- the nibble of a slot for the soft threads, and that of a disabled one
abbrev pub soft_slot : ℕ
soft_slot = 14

abbrev pub disabled_slot : ℕ
disabled_slot = 15

-- the allowed nibbles of a slot: a thread, soft or disabled
abbrev pub is_slot : ℕ → Bool
is_slot nibble = nat_lt nibble 8 || nibble == soft_slot || nibble == disabled_slot

-- a slot of the frame
abbrev pub is_used : ℕ → Bool
is_used nibble = not (nibble == disabled_slot)

-- the slots that aren't disabled, in order
unfoldable pub frame : ℕ → List ℕ
frame slots = filter is_used (nibbles slots)

-- the turn of a slot of the frame
abbrev pub turn_of_slot : ℕ → Turn
turn_of_slot nibble = if nat_lt nibble 8 then Thread nibble else Soft

-- the turn of a nibble that is allowed in a slot
abbrev pub turn_named : ℕ → Turn
turn_named nibble = if nibble == disabled_slot then Nobody else turn_of_slot nibble

-- the frame's entry number c modulo its length; an empty frame is nobody's
abbrev pub turn_in : List ℕ → ℕ → Turn
turn_in [] c = Nobody
turn_in (slot ∷ slots) c =
    turn_of_slot (slice_index_or (slot ∷ slots) (c % length (slot ∷ slots)) soft_slot)

-- the turn of cycle c, from the word of the register
unfoldable pub turn : ℕ → ℕ → Turn
turn slots c = turn_in (frame slots) c

-- the thread of a turn is one of the eight
abbrev pub IsTurn : Turn → Type 0
IsTurn (Thread thread) = thread < 8
IsTurn Soft = Unit {0}
IsTurn Nobody = Unit {0}
