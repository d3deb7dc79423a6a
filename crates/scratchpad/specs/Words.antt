-- Words as bytes in memory, and words written one after the other.
use Rattle.std.specs.Prelude.{ℕ, ◌+◌, ◌*◌, ◌/◌, List, ◌++◌, slice_index_or, map, take, drop, length}
use Rattle.std.specs.List.{range_with_len}

-- the word at an offset, counted in words; the lowest byte comes first
abbrev pub word_in : List ℕ → ℕ → ℕ
word_in bytes offset =
    slice_index_or bytes (4 * offset) 0 + slice_index_or bytes (4 * offset + 1) 0 * 0x100
    + slice_index_or bytes (4 * offset + 2) 0 * 0x10000
    + slice_index_or bytes (4 * offset + 3) 0 * 0x1000000

-- a number of first words
abbrev pub first_words : List ℕ → ℕ → List ℕ
first_words bytes count = map (word_in bytes) (range_with_len 0 count)

-- the words of bytes
unfoldable pub words_of : List ℕ → List ℕ
words_of bytes = first_words bytes (length bytes / 4)

-- words written over others from an index on
abbrev pub written_at : List ℕ → ℕ → List ℕ → List ℕ
written_at old index words = take index old ++ (words ++ drop (index + length words) old)
