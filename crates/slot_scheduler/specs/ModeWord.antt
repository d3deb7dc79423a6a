-- The modes register: two bits for each thread.
use Rattle.std.specs.Prelude.{ℕ, ◌/◌, ◌%◌, ◌^◌, ◌==◌, nat_lt, Bool, ◌||◌}
use Rattle.std.specs.Prelude.{if◌then◌else◌, List, [], ◌∷◌, map, Result, Ok, Err}
use Rattle.slot_table.specs.Masks.{mask_of}
use Rattle.slot_scheduler.specs.declared.mode_word.BadMode.{BadMode}

-- whether a word is allowed in the register: its bits above 15 are 0
abbrev pub is_modes : ℕ → Bool
is_modes word = nat_lt word 65536

-- the word unchanged if it is accepted, else a refusal
abbrev pub modes_of : ℕ → Result ℕ BadMode
modes_of word = if is_modes word then Ok word else Err (record {})

-- the mode of a thread: 0 is hard active, 1 hard asleep, 2 soft active, 3 soft asleep
abbrev pub mode_of : ℕ → ℕ → ℕ
mode_of modes thread = modes / 4 ^ thread % 4

-- the modes of the eight threads
abbrev pub mode_list : ℕ → List ℕ
mode_list modes = map (mode_of modes) (0 ∷ 1 ∷ 2 ∷ 3 ∷ 4 ∷ 5 ∷ 6 ∷ 7 ∷ [])

-- whether a thread of a mode is active, hard or soft, and whether it is soft and active
abbrev pub is_active : ℕ → Bool
is_active mode = mode == 0 || mode == 2

abbrev pub is_soft : ℕ → Bool
is_soft mode = mode == 2

-- the threads whose mode passes a test; thread i is bit i
unfoldable pub threads_that : (ℕ → Bool) → ℕ → ℕ
threads_that test modes = mask_of (map test (mode_list modes))
