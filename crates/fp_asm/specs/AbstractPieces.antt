-- Abstraction functions of pieces, names and labels.
use Rattle.std.specs.Prelude.{ℕ, List, map}
use Rattle.std.specs.Borrow.{Bor}
use Rattle.fp_asm.specs.Pieces.{Piece, name, number, comma, colon, opening, closing, plus, minus}
use Rattle.std.specs.BTreeMap.{BTreeMap}
use Rattle.fp_asm.specs.Mnemonics.{Mnemonic}
use Rattle.fp_asm.specs.First.{Labels}
use Rattle.fp_asm.specs.declared.mnemonics.Row.{Row}
use Rattle.fp_asm.specs.declared.pieces.Piece.TheVariants as piece

-- a row of the table, as plain data
abbrev pub abstract_mnemonic : Row → Mnemonic
abstract_mnemonic r = record { name = r.name.now; form = r.form.now; makes = r.makes }

-- a name with its number, as plain data
abbrev pub abstract_name : Bor (List ℕ) × ℕ → List ℕ × ℕ
abstract_name r = (r.0.now, r.1)

-- a piece, as plain data
abbrev pub abstract_piece : piece.the_data → Piece
abstract_piece (piece.Name text) = name text.now
abstract_piece (piece.Number value) = number value
abstract_piece piece.Comma = comma
abstract_piece piece.Colon = colon
abstract_piece piece.Opening = opening
abstract_piece piece.Closing = closing
abstract_piece piece.Plus = plus
abstract_piece piece.Minus = minus

-- an operand, as plain data
abbrev pub abstract_operand : Bor (List piece.the_data) → List Piece
abstract_operand ps = map abstract_piece ps.now

-- the labels that a map has
abbrev pub abstract_labels : BTreeMap (Bor (List ℕ)) ℕ → Labels
abstract_labels m = map (λ e. (e.0.now, e.1)) m.entries
