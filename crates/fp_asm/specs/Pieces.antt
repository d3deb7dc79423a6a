-- The tokens of a line with their texts, and its operands.
use Rattle.std.specs.Prelude.{Bool, true, false, ℕ, ◌==◌, List, [], ◌∷◌}
use Rattle.std.specs.Prelude.{Result, Ok, Err, if◌then◌else◌, map, slice_range}
use Rattle.fp_lex.specs.Tokens.{tokens_of}
use Rattle.fp_lex.specs.declared.token.Token.{Token}
use Rattle.fp_lex.specs.declared.token.LexNo.{LexNo}
use Rattle.fp_lex.specs.declared.token.Kind.TheVariants as kind
use Rattle.fp_asm.specs.Between.{between}
use Rattle.fp_asm.specs.declared.refusal.AsmNo.{AsmNo}
use Rattle.fp_asm.specs.declared.refusal.AsmNo.TheVariants as no

-- a text by its bytes
abbrev pub Text : Type 0
Text = List ℕ

-- A token, without its span.
pub data Piece : Type 0 where
  name : Text → Piece
  number : ℕ → Piece
  comma : Piece
  colon : Piece
  opening : Piece
  closing : Piece
  plus : Piece
  minus : Piece

-- `,` `:` `(` `)` `+` and else `-`
abbrev pub mark : ℕ → Piece
mark b =
    if b == 44 then comma
    else if b == 58 then colon
    else if b == 40 then opening
    else if b == 41
    then closing
    else if b == 43 then plus else minus

-- the piece of a token, by its kind, text and value
abbrev pub piece_of : kind.the_data → Text → ℕ → Piece
piece_of kind.Name text value = name text
piece_of kind.Number text value = number value
piece_of kind.Mark text value = mark value

-- a token of a line
unfoldable pub piece : Text → Token → Piece
piece line t = piece_of t.kind (slice_range line t.start t.end) t.value

-- the pieces of tokens, or the fault of a line that isn't one of tokens
abbrev pub pieces_or_fault : Text → Result (List Token) LexNo → Result (List Piece) AsmNo
pieces_or_fault line (Ok ts) = Ok (map (piece line) ts)
pieces_or_fault line (Err fault) = Err no.Lex

-- the pieces of a line
unfoldable pub pieces_of : Text → Result (List Piece) AsmNo
pieces_of line = pieces_or_fault line (tokens_of line)

-- whether the piece is a comma
abbrev pub is_comma : Piece → Bool
is_comma comma = true
is_comma _ = false

-- the pieces between commas
unfoldable pub commas : List Piece → List (List Piece)
commas ps = between is_comma (λ operand. operand) (λ operand. operand) ps

-- the operands: the pieces between commas, and none if there are no pieces
unfoldable pub operands_of : List Piece → List (List Piece)
operands_of [] = []
operands_of (p ∷ ps) = commas (p ∷ ps)
