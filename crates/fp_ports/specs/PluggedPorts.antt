-- Eight ports as eight rows: a row is None if no port is plugged in, else the meaning of the port.
use Rattle.std.specs.Prelude.{◌≡◌, ℕ, ◌^◌, ◌≤◌, ⊤, List, map, Option, Some, None}
use Rattle.std.specs.Prelude.{option_map, fold, nat_lt, if◌then◌else◌, slice_index_or}
use Rattle.std.specs.Option.{option_map_or}
use Rattle.fp_ports.specs.PortWords.{fed_words}

-- the meaning of a port: its latch, and its word for each cycle
pub record Row : Type 0 where
  pub latch : ℕ
  pub words : ℕ → ℕ

-- the words of the cycles that fit 64 bits, and 0 past them; a port's claims cover only these
-- cycles
abbrev pub claim_of : (ℕ → ℕ) → ℕ → ℕ
claim_of words c = if nat_lt c (2 ^ 64) then words c else 0

-- the row of a port, or of none. B is the type of the ports, which have these latches and words
abbrev pub row_of : {B : Type 0} → (B → ℕ) → (B → ℕ → ℕ) → Option B → Option Row
row_of latched word_at (Some port) =
    Some (record { latch = latched port; words = claim_of (word_at port) })
row_of latched word_at None = None

-- the rows of the devices
abbrev pub rows_of : {B : Type 0} → (B → ℕ) → (B → ℕ → ℕ) → List (Option B) → List (Option Row)
rows_of latched word_at ports = map (row_of latched word_at) ports

-- the row of a thread
abbrev pub row_at : List (Option Row) → ℕ → Option Row
row_at rows thread = slice_index_or rows thread None

-- the word that is read if no port is plugged in: all ones
abbrev pub absent_word : ℕ
absent_word = 0xFFFFFFFF

-- the word that is read in a cycle
abbrev pub word_seen : Option Row → ℕ → ℕ
word_seen row c = option_map_or (λ r. r.words c) row absent_word

-- the latch, if a port is plugged in
abbrev pub latch_seen : Option Row → Option ℕ
latch_seen row = option_map (λ r. r.latch) row

-- the row after a word was written: the word is the latch. If no port is plugged in nothing changes
abbrev pub row_with_word : Option Row → ℕ → Option Row
row_with_word row word = option_map {T = Row} (λ r. record r { latch = word }) row

-- the row after a word was fed at a cycle. If no port is plugged in nothing changes
abbrev pub fed : Option Row → ℕ → ℕ → Option Row
fed row at word =
    option_map {T = Row} (λ r. record r { words = claim_of (fed_words r.words at word) }) row

-- a row after the words before a cycle were forgotten: the latch stays, and so do the words from
-- the cycle on. If no port is plugged in nothing changes
abbrev pub Forgot : ℕ → Option Row → Option Row → Type 0
Forgot first (Some before) (Some after) =
    (after.latch ≡ before.latch) × ((c : ℕ) → first ≤ c → after.words c ≡ before.words c)
Forgot first None None = ⊤
Forgot first (Some before) None = ⊥
Forgot first None (Some after) = ⊥

-- after pairs of a cycle and a word were fed in order
abbrev pub fed_all : Option Row → List (ℕ × ℕ) → Option Row
fed_all row inputs = fold (λ before input. fed before input.0 input.1) row inputs
