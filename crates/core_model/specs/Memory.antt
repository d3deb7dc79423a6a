-- The words of the two scratchpads. `size` is the size of each scratchpad, in bytes.
use Rattle.std.specs.Prelude.{ℕ, List, slice_index_or, slice_set, if◌then◌else◌}
use Rattle.rv_exec.specs.Access.{lanes_at, merged_word}
use Rattle.region_guard.specs.Regions.{is_code, is_data, index_of}

-- the word of a list of words at an address
abbrev pub word_at : ℕ → List ℕ → ℕ → ℕ
word_at size words address = slice_index_or words (index_of size address) 0

-- the words after a store
abbrev pub words_with_store : ℕ → List ℕ → ℕ → ℕ → ℕ → List ℕ
words_with_store size words address width value =
    slice_set words (index_of size address)
    (merged_word (word_at size words address) (lanes_at width address value))

-- the word of the instruction scratchpad, 0 outside
unfoldable pub code_at : ℕ → List ℕ → ℕ → ℕ
code_at size i_words pc = if is_code size pc then word_at size i_words pc else 0

-- the word at an address from which a load is allowed: in a scratchpad, or at the port
unfoldable pub data_at : ℕ → List ℕ → List ℕ → ℕ → ℕ → ℕ
data_at size i_words d_words port address =
    if is_code size address then word_at size i_words address
    else if is_data size address then word_at size d_words address
    else port
