-- A plant defined by a table of words.
use Rattle.std.specs.Prelude.{ℕ, ◌+◌, ◌*◌, ◌%◌, List, fold, length, slice_index_or}

-- the table, and the last two words that the plant took
pub record Tabled : Type 0 where
  pub words : List ℕ
  pub before : ℕ
  pub last : ℕ

-- a table before the first step
abbrev pub unused : List ℕ → Tabled
unused words = record { words = words; before = 0; last = 0 }

-- the plant after a step that takes a word
abbrev pub table_after : Tabled → ℕ → Tabled
table_after table word = record table { before = table.last; last = word }

-- the entry for the last two words
abbrev pub entry_of : Tabled → ℕ
entry_of table =
    slice_index_or table.words ((table.last + 3 * table.before) % length table.words) 0

-- the entry after steps that take these words
abbrev pub entry_after : Tabled → List ℕ → ℕ
entry_after table taken = entry_of (fold table_after table taken)
