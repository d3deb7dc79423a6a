-- The texts for slots, owners of regions and modes, with their numbers.
use Rattle.std.specs.Prelude.{ℕ, Bool, true, nat_lt, List, [], ◌∷◌, ◌++◌}
use Rattle.std.specs.Prelude.{Option, Some, None, if◌then◌else◌, codes}
use Rattle.std.specs.Str.{bytes_eq}
use Rattle.slot_table.specs.Frame.{disabled_slot, is_slot, soft_slot}
use Rattle.slot_table.specs.Table.{is_table}
use Rattle.region_guard.specs.Regions.{is_owner_nibble, read_only_region, shared_region}
use Rattle.region_guard.specs.RegionsWord.{is_regions}
use Rattle.fp_setup.specs.declared.vocabulary.Words.{Words}
use Rattle.fp_setup.specs.declared.vocabulary.Words.TheVariants.{Slots, Owners, Modes}
use Rattle.fp_setup.specs.declared.refusal.SetupNo.{SetupNo}
use Rattle.fp_setup.specs.declared.refusal.SetupNo.TheVariants as no

abbrev pub Text : Type 0
Text = List ℕ

abbrev pub threads : List (Text × ℕ)
threads =
    (codes "T0", 0) ∷ (codes "T1", 1) ∷ (codes "T2", 2) ∷ (codes "T3", 3)
    ∷ (codes "T4", 4) ∷ (codes "T5", 5) ∷ (codes "T6", 6) ∷ (codes "T7", 7) ∷ []

-- a slot is a thread's, the soft threads', or disabled; a region is a thread's, shared or read only
abbrev pub entries : Words → List (Text × ℕ)
entries Slots = threads ++ (codes "S", soft_slot) ∷ (codes "D", disabled_slot) ∷ []
entries Owners =
    threads ++ (codes "shared", shared_region) ∷ (codes "readonly", read_only_region) ∷ []
entries Modes =
    (codes "hard", 0) ∷ (codes "hard-asleep", 1) ∷ (codes "soft", 2) ∷ (codes "soft-asleep", 3) ∷ []

-- the refusal of a text that isn't among them
abbrev pub refusal : Words → SetupNo
refusal Slots = no.BadSlot
refusal Owners = no.BadRegion
refusal Modes = no.BadMode

-- the number of a text in a list, or none
abbrev pub number_in : List (Text × ℕ) → Text → Option ℕ
number_in [] text = None
number_in (e ∷ es) text = if bytes_eq text e.0 then Some e.1 else number_in es text

unfoldable pub number_of : Words → Text → Option ℕ
number_of words text = number_in (entries words) text

-- whether a number is that of some text of a list
abbrev pub is_value : Words → ℕ → Bool
is_value Slots n = is_slot n
is_value Owners n = is_owner_nibble n
is_value Modes n = nat_lt n 4

-- whether the register of these numbers accepts a word; it accepts every word of eight modes
abbrev pub is_word : Words → ℕ → Bool
is_word Slots word = is_table word
is_word Owners word = is_regions word
is_word Modes word = true
