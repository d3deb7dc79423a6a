-- Operands, comma by comma.
use Rattle.std.proofs.Common.{◌≡◌, ℕ, ◌<◌, ◌≤◌, ◌+◌, ◌-◌, ◌∙◌, List, [], ◌∷◌, ◌++◌}
use Rattle.std.proofs.Common.{length, take, drop, get_or, refl, sym, ap, arith}
use Rattle.std.proofs.Common.{append_assoc, map, Bor, Bool, true, false, cond, length-drop}
use Rattle.std.proofs.lemmas.List.{map-append, take_all}
use Rattle.fp_asm.specs.Between.{between_from}
use Rattle.fp_asm.specs.Pieces.{Piece, is_comma, commas}
use Rattle.fp_asm.specs.AbstractPieces.{abstract_piece, abstract_operand}
use Rattle.fp_asm.specs.declared.pieces.Piece.TheVariants as piece
use Rattle.fp_asm.proofs.Between.{cut, cut_start, cut_ends, cut_on, cut_last}

-- the items between separators, mapped element by element
between_seen : {A B C : Type 0} (h : A → C) (p : C → Bool) (e g : List C → B) (item xs : List A) →
    between_from p e g (map h item) (map h xs)
    ≡ between_from (λ x. p (h x)) (λ l. e (map h l)) (λ l. g (map h l)) item xs
unfolding between_from
between_seen h p e g item [] = refl
between_seen h p e g item (x ∷ xs) =
    go (p (h x)) (between_seen h p e g [] xs)
    (ap (λ l. between_from p e g l (map h xs)) (map-append h item (x ∷ [])) ∙ refl)
    (between_seen h p e g (item ++ x ∷ []) xs)
  where
    go : (b : Bool)
        → between_from p e g [] (map h xs) ≡ between_from (λ x. p (h x)) (λ l. e (map h l))
        (λ l. g (map h l)) [] xs → between_from p e g (map h (item ++ x ∷ []))
        (map h xs) ≡ between_from p e g (map h item ++ h x ∷ []) (map h xs) →
        between_from p e g (map h (item ++ x ∷ [])) (map h xs) ≡ between_from (λ x. p (h x))
        (λ l. e (map h l)) (λ l. g (map h l)) (item ++ x ∷ []) xs →
        cond b (e (map h item) ∷ between_from p e g [] (map h xs))
        (between_from p e g (map h item ++ h x ∷ []) (map h xs)) ≡ cond b
        (e (map h item) ∷ between_from (λ x. p (h x)) (λ l. e (map h l)) (λ l. g (map h l)) [] xs)
        (between_from (λ x. p (h x)) (λ l. e (map h l)) (λ l. g (map h l)) (item ++ x ∷ []) xs)
    go true none same more = ap (λ l. e (map h item) ∷ l) none
    go false none same more = sym same ∙ more

abbrev Pieces : Type 0
Pieces = List piece.the_data

-- the operands from piece i on, where the first begins at `start`
pub operands_from : Pieces → ℕ → ℕ → List (List Piece)
operands_from ps start i =
    cut (λ p. is_comma (abstract_piece p)) (λ l. map abstract_piece l)
    (λ l. map abstract_piece l) ps start i

pub commas_start : (ps : Pieces) → commas (map abstract_piece ps) ≡ operands_from ps 0 0
unfolding commas operands_from
commas_start ps =
    between_seen abstract_piece is_comma (λ l. l) (λ l. l) [] ps
    ∙ cut_start (λ p. is_comma (abstract_piece p)) (λ l. map abstract_piece l)
    (λ l. map abstract_piece l) ps

module _ (ps : Pieces) (start i : ℕ) (d : piece.the_data) where
  pub commas_on : i < length ps → start ≤ i → is_comma (abstract_piece (get_or ps i d)) ≡ false →
      operands_from ps start i ≡ operands_from ps start (i + 1)
  unfolding operands_from
  commas_on h k e =
      cut_on (λ p. is_comma (abstract_piece p)) (λ l. map abstract_piece l)
      (λ l. map abstract_piece l) ps start i d h k e

  pub commas_push : (xs : List (Bor Pieces)) (x : Bor Pieces) →
      commas (map abstract_piece ps) ≡ map abstract_operand xs ++ operands_from ps start i →
      i < length ps → is_comma (abstract_piece (get_or ps i d)) ≡ true →
      x.now ≡ take (i - start) (drop start ps) → commas (map abstract_piece ps)
      ≡ map abstract_operand (xs ++ x ∷ []) ++ operands_from ps (i + 1) (i + 1)
  unfolding operands_from
  commas_push xs x so h e same = so ∙ rw (
    cut_ends (λ p. is_comma (abstract_piece p)) (λ l. map abstract_piece l)
        (λ l. map abstract_piece l) ps start i d h e,
    map-append,
    same,
  ) (sym (append_assoc (map abstract_operand xs) (map abstract_piece
      (take (i - start) (drop start ps)) ∷ []) (operands_from ps (i + 1) (i + 1))))

pub commas_last : (ps : Pieces) (start i : ℕ) (xs : List (Bor Pieces)) (x : Bor Pieces) →
    commas (map abstract_piece ps) ≡ map abstract_operand xs ++ operands_from ps start i →
    length ps ≤ i → start ≤ i → x.now ≡ take (length ps - start) (drop start ps) →
    map abstract_operand (xs ++ x ∷ []) ≡ commas (map abstract_piece ps)
unfolding operands_from
commas_last ps start i xs x so h k same = sym (so ∙ rw (
  cut_last (λ p. is_comma (abstract_piece p)) (λ l. map abstract_piece l)
      (λ l. map abstract_piece l) ps start i h k,
  map-append,
  same,
  take_all (length ps - start) (drop start ps) (rw length-drop (omega arith)),
) refl)
