-- A plant that replays recorded words.
use Rattle.std.specs.Prelude.{ℕ, ◌+◌, ◌-◌, List, fold, length, min, slice_index_or}

-- the words, and the number of the one that the plant shows
pub record Recorded : Type 0 where
  pub words : List ℕ
  pub at : ℕ

-- a recording before the first step
abbrev pub unplayed : List ℕ → Recorded
unplayed words = record { words = words; at = 0 }

-- after a step: the next word, or the last one
abbrev pub next_word : Recorded → ℕ → Recorded
next_word recording drive =
    record recording { at = min (recording.at + 1) (length recording.words - 1) }

-- the word that is shown
abbrev pub word_now : Recorded → ℕ
word_now recording = slice_index_or recording.words recording.at 0

-- the word after steps, for any words that they take
abbrev pub played_after : Recorded → List ℕ → ℕ
played_after recording taken = word_now (fold next_word recording taken)
