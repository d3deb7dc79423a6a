-- A source as a listing: what each line says, and the address at which it stands. Lines are counted
-- from 0.
use Rattle.std.specs.Prelude.{◌≡◌, ℕ, ◌+◌, ◌*◌, ◌<◌, List, [], ◌∷◌, Option, Some, None}
use Rattle.std.specs.Prelude.{Result, Ok, Err, fold, take, length, get_or, Contains}
use Rattle.fp_asm.specs.Pieces.{Text, Piece, name, colon, pieces_of}
use Rattle.fp_asm.specs.Statements.{Statement, statement_of, location_after}
use Rattle.fp_asm.specs.First.{Labels}
use Rattle.fp_asm.specs.Second.{after_labels, statement_words}
use Rattle.fp_asm.specs.Faults.{next}
use Rattle.fp_asm.specs.declared.refusal.AsmNo.{AsmNo}

-- the labels at the head of the pieces
unfoldable pub head_labels : List Piece → List Text
head_labels (name x ∷ colon ∷ ps) = x ∷ head_labels ps
head_labels _ = []

-- the same of a line that is one of pieces
abbrev pub labels_of : Result (List Piece) AsmNo → List Text
labels_of (Ok ps) = head_labels ps
labels_of (Err fault) = []

-- the labels of a line
abbrev pub labels_in : Text → List Text
labels_in line = labels_of (pieces_of line)

-- the statement of a line behind its labels, if it has one
abbrev pub statement_in : Text → Result (Option Statement) AsmNo
statement_in line = next (pieces_of line) (λ ps. statement_of (after_labels ps))

-- the address behind a statement, if there is one
abbrev pub address_behind : ℕ → Result (Option Statement) AsmNo → ℕ
address_behind a (Ok (Some s)) = location_after a s
address_behind a _ = a

-- the address behind a line that stands at an address
abbrev pub behind : ℕ → Text → ℕ
behind a line = address_behind a (statement_in line)

-- the address of a line, if the first one stands at an address
abbrev pub address_of : ℕ → List Text → ℕ → ℕ
address_of first lines k = fold behind first (take k lines)

-- the words of a statement at an address are these, none if there is no statement
abbrev pub AreWordsOf : Labels → ℕ → Option Statement → List ℕ → Type 0
AreWordsOf labels a None words = words ≡ []
AreWordsOf labels a (Some s) words = statement_words labels a s ≡ Ok words

-- A word at an address is one that a line's statement makes there.
pub record IsPlaced (labels : Labels) (first : ℕ) (lines : List Text) (a w : ℕ) : Type 0 where
  pub line : ℕ
  pub index : ℕ  -- which of the statement's words
  pub statement : Option Statement
  pub words : List ℕ
  pub exists : line < length lines
  pub says : statement_in (get_or lines line []) ≡ Ok statement
  pub makes : AreWordsOf labels (address_of first lines line) statement words
  pub within : index < length words
  pub stands : a ≡ address_of first lines line + 4 * index
  pub is : get_or words index 0 ≡ w

-- An address is that of the line in which a label stands, so of what follows the label.
pub record IsLabel (first : ℕ) (lines : List Text) (x : Text) (a : ℕ) : Type 0 where
  pub line : ℕ
  pub exists : line < length lines
  pub has : Contains (labels_in (get_or lines line [])) x
  pub stands : a ≡ address_of first lines line

-- a line has a statement or none, and the statement's words
abbrev pub IsMade : Labels → ℕ → Text → Type 0
IsMade labels a line =
    (s : Option Statement) × (words : List ℕ)
    × (statement_in line ≡ Ok s) × AreWordsOf labels a s words
