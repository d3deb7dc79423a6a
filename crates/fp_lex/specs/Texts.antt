-- The texts of tokens, and the order of their spans.
use Rattle.std.specs.Prelude.{◌≡◌, ℕ, ◌<◌, ◌≤◌, List, [], ◌∷◌, Bool}
use Rattle.std.specs.Prelude.{IsTrue, MatchBool, length, drop, slice_range}
use Rattle.std.specs.List.{AllPass}
use Rattle.fp_lex.specs.Bytes.{is_digit, is_hex, is_head, is_rest, is_mark, starts, number_of}
use Rattle.fp_lex.specs.Tokens.{is_prefixed}
use Rattle.fp_lex.specs.declared.token.Token.{Token}
use Rattle.fp_lex.specs.declared.token.Kind.{Kind}
use Rattle.fp_lex.specs.declared.token.Kind.TheVariants.{Name, Number, Mark}

-- Some digits and their number.
pub record IsNumeral (test : ℕ → Bool) (base : ℕ) (digits : List ℕ) (value : ℕ) : Type 0 where
  pub some : 0 < length digits
  pub digits_only : AllPass test digits
  pub valued : number_of base digits ≡ value

-- A name: a head, and then letters, digits, `_` and `.`; its value is 0.
pub record IsName (text : List ℕ) (value : ℕ) : Type 0 where
  pub begins : IsTrue (starts is_head text)
  pub goes_on : AllPass is_rest text
  pub valued : value ≡ 0

-- A mark: its one byte, which is its value.
pub record IsMark (text : List ℕ) (value : ℕ) : Type 0 where
  pub marks : IsTrue (is_mark value)
  pub alone : text ≡ value ∷ []

-- the text of a token, from its kind and value
abbrev pub IsText : Kind → List ℕ → ℕ → Type 0
IsText Name text value = IsName text value
IsText Number text value =
    MatchBool (is_prefixed text) (IsNumeral is_hex 16 (drop 2 text) value)
    (IsNumeral is_digit 10 text value)
IsText Mark text value = IsMark text value

-- a token of a line: its span is inside and not empty, and its text is the line's slice there
pub record IsTokenOf (line : List ℕ) (t : Token) : Type 0 where
  pub rises : t.start < t.end
  pub inside : t.end ≤ length line
  pub reads : IsText t.kind (slice_range line t.start t.end) t.value

-- each token starts at or after the end of the one before it, and the first at or after a column
abbrev pub AreRising : ℕ → List Token → Type 0
AreRising from [] = Unit {0}
AreRising from (t ∷ ts) = (from ≤ t.start) × AreRising t.end ts
