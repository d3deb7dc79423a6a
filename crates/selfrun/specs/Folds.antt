-- The hash of a text, computed from the text's parts.
use Rattle.std.specs.Prelude.{◌≡◌, ℕ, ◌+◌, ◌*◌, ◌/◌, ◌%◌, ◌^◌, ◌<◌, ◌≤◌, ◌==◌, List, []}
use Rattle.std.specs.Prelude.{◌∷◌, ◌++◌, codes, replicate, slice_index_or, if◌then◌else◌}
use Rattle.trace_print.specs.Digits.{hex, hex_digit, right, two_digits}
use Rattle.selfrun.specs.Text.{fold_of}
use Rattle.selfrun.specs.declared.piece.Piece.{Piece}
use Rattle.selfrun.specs.declared.sites.Site.{Site}

-- the effect of a text on the hash before it
abbrev pub IsPiece : Piece → List ℕ → Type 0
IsPiece p bytes = (h : ℕ) → h < 2 ^ 32 → fold_of h bytes ≡ (h * p.weight + p.sum) % 2 ^ 32

-- the n-th entry of a table is the piece of a text
abbrev pub IsPieceAt : List Piece → ℕ → List ℕ → Type 0
IsPieceAt pieces n bytes = IsPiece (slice_index_or pieces n (record { weight = 0; sum = 0 })) bytes

-- the two hexadecimal digits of a byte, and their hash
abbrev pub pair_text : ℕ → List ℕ
pair_text byte = hex_digit (byte / 16) ∷ hex_digit (byte % 16) ∷ []

abbrev pub pair_sum : ℕ → ℕ
pair_sum byte = hex_digit (byte / 16) * 31 + hex_digit (byte % 16)

-- a table of the hashes of two hexadecimal digits, by byte
abbrev pub ArePairs : List ℕ → Type 0
ArePairs pairs = (byte : ℕ) → byte < 256 → slice_index_or pairs byte 0 ≡ pair_sum byte

-- a register's name and the `=` after it, by register
abbrev pub name_text : ℕ → List ℕ
name_text rd = codes "x" ++ (two_digits rd ++ codes "=")

-- a table of the pieces of these, by register
abbrev pub AreNames : List Piece → Type 0
AreNames names = (rd : ℕ) → rd < 32 → IsPieceAt names rd (name_text rd)

-- a cycle right in ten columns, and a space
abbrev pub cycle_text : ℕ → List ℕ
cycle_text cycle = right 10 cycle ++ codes " "

-- the text in some columns before the last digit of a number, from a tenth of the number
unfoldable pub upper_text : ℕ → ℕ → List ℕ
upper_text width tens = if tens == 0 then replicate width 32 else right width tens

-- the last two digits of a cycle, and a space, by these digits
abbrev pub lower_text : ℕ → List ℕ
lower_text n = two_digits n ++ codes " "

-- a table of the pieces of these, by the two digits
abbrev pub AreLower : List Piece → Type 0
AreLower lower = (n : ℕ) → n < 100 → IsPieceAt lower n (lower_text n)

-- the first of a hundred cycles that have the same text before their last two digits
abbrev pub IsFirst : ℕ → Type 0
IsFirst first = (100 ≤ first) × (first % 100 ≡ 0) × (first < 10 ^ 10)

-- a pc and a word, each followed by a space
abbrev pub site_text : ℕ → ℕ → List ℕ
site_text pc word = (hex 8 pc ++ codes " ") ++ (hex 8 word ++ codes " ")

-- the piece that is cached for a pc and a word is that of their text
abbrev pub IsSite : Site → Type 0
IsSite s = IsPiece s.piece (site_text s.pc s.word)

-- a table of such sites, by index
abbrev pub AreSites : List Site → Type 0
AreSites sites =
    (n : ℕ) → n < 1024 → IsSite
    (slice_index_or sites n (record { pc = 0; word = 0; piece = record { weight = 0; sum = 0 } }))
