-- Lines without a statement.
use Rattle.std.proofs.Common.{◌≡◌, ◌==◌, ◌+◌, ℕ, List, [], ◌∷◌, Ok, None, refl, length}
use Rattle.std.proofs.Common.{true, arith}
use Rattle.std.proofs.lemmas.Bool.Decides.{nat_tests}
use Rattle.fp_lex.specs.Tokens.{tokens_of, tokens_from}
use Rattle.fp_asm.specs.Pieces.{Text, Piece, pieces_of}
use Rattle.fp_asm.specs.Statements.{statement_of}
use Rattle.fp_asm.specs.First.{Labels, Placed, first_line, with_labels, placed_size, placed_by}
use Rattle.fp_asm.specs.Second.{Written, second_line, after_labels, written_by}

pub nothing : {A : Type 0} (xs : List A) → (length xs == 0) ≡ true → xs ≡ []
nothing [] e = refl
nothing (x ∷ xs) e = absurd (let none : length xs + 1 ≡ 0 = grind (arith, nat_tests) in omega arith)

pub sized_nothing : (location : ℕ) (ps : List Piece) → ps ≡ [] → placed_size location ps ≡ Ok None
unfolding placed_size statement_of
sized_nothing location ps e = rw e refl

pub first_nothing : (p : Placed) (line : Text) → (length line == 0) ≡ true →
    first_line p line ≡ Ok p
unfolding first_line pieces_of tokens_of tokens_from with_labels placed_size statement_of placed_by
first_nothing p line e = rw (nothing line e) refl

pub second_nothing : (labels : Labels) (w : Written) (line : Text) → (length line == 0) ≡ true →
    second_line labels w line ≡ Ok w
unfolding second_line pieces_of tokens_of tokens_from after_labels statement_of written_by
second_nothing labels w line e = rw (nothing line e) refl

pub second_labels : (labels : Labels) (w : Written) (line : Text) (ps : List Piece) →
    pieces_of line ≡ Ok ps → after_labels ps ≡ [] → second_line labels w line ≡ Ok w
unfolding second_line statement_of written_by
second_labels labels w line ps is none = rw (is, none) refl
