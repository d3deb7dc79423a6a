-- Operands, slot by slot.
use Rattle.std.proofs.Common.{◌≡◌, ℕ, ◌<◌, ◌≤◌, ◌+◌, ◌∙◌, List, [], ◌∷◌, ◌++◌, length}
use Rattle.std.proofs.Common.{drop, get_or, refl, sym, ap, arith, add-one, append_assoc}
use Rattle.std.proofs.Common.{append-nil, map, Bor, Option, Some, None, option_map}
use Rattle.std.proofs.Math.Seq.{drop-cons}
use Rattle.std.proofs.Math.ListN.{drop_of_length-le}
use Rattle.std.proofs.lemmas.List.{map-append}
use Rattle.fp_asm.specs.Operands.{Target, Operands, all_filled, target_in, all_targets}
use Rattle.fp_asm.specs.AbstractPieces.{abstract_piece, abstract_operand}
use Rattle.fp_asm.specs.AbstractOperands.{abstract_target}
use Rattle.fp_asm.specs.declared.mnemonics.Slot.{Slot}
use Rattle.fp_asm.specs.declared.pieces.Piece.TheVariants as piece
use Rattle.fp_asm.specs.declared.operands.Target.TheVariants as target

abbrev Given : Type 0
Given = Bor (List piece.the_data)

here : {A : Type 0} (xs : List A) (i : ℕ) (d : A) → i < length xs →
    drop i xs ≡ get_or xs i d ∷ drop (i + 1) xs
here xs i d h = rw (add-one i) (drop-cons xs i d h)

-- the targets from index i on, after those of a list
pub targets_from : List Target → List Given → ℕ → Option (List Target)
targets_from found operands i =
    option_map (λ vs. found ++ vs) (all_targets (map abstract_operand (drop i operands)))

pub targets_start : (operands : List Given) →
    all_targets (map abstract_operand operands) ≡ targets_from [] operands 0
unfolding targets_from
targets_start operands = go (all_targets (map abstract_operand operands))
  where
    go : (r : Option (List Target)) → r ≡ option_map (λ vs. [] ++ vs) r
    go None = refl
    go (Some vs) = refl

target_more : (v : Target) (found : List Target) (r : Option (List Target)) →
    option_map (λ vs. found ++ vs) (option_map (λ vs. v ∷ vs) r)
    ≡ option_map (λ vs. (found ++ v ∷ []) ++ vs) r
target_more v found None = refl
target_more v found (Some vs) = ap Some (sym (append_assoc found (v ∷ []) vs))

module _ (found : List Target) (operands : List Given) (i : ℕ) (d : Given) where
  more : (v : Target) → i < length operands →
      target_in (map abstract_piece (get_or operands i d).now) ≡ Some v →
      targets_from found operands i ≡ targets_from (found ++ v ∷ []) operands (i + 1)
  unfolding targets_from all_targets
  more v h e =
      rw (here operands i d h, e)
      (target_more v found (all_targets (map abstract_operand (drop (i + 1) operands))))

  pub targets_none : i < length operands →
      target_in (map abstract_piece (get_or operands i d).now) ≡ None →
      targets_from found operands i ≡ None
  unfolding targets_from all_targets
  targets_none h e = rw (here operands i d h, e) refl

pub targets_end : (found : List Target) (operands : List Given) (i : ℕ) → length operands ≤ i →
    targets_from found operands i ≡ Some found
unfolding targets_from all_targets
targets_end found operands i h = rw (drop_of_length-le operands h) (ap Some (append-nil found))

pub targets_more : (xs : List target.the_data) (operands : List Given)
    (i : ℕ) (d : Given) (x : target.the_data) → i < length operands →
    target_in (map abstract_piece (get_or operands i d).now) ≡ Some (abstract_target x) →
    targets_from (map abstract_target xs) operands i
    ≡ targets_from (map abstract_target (xs ++ x ∷ [])) operands (i + 1)
targets_more xs operands i d x h e =
    more (map abstract_target xs) operands i d (abstract_target x) h e
    ∙ ap (λ l. targets_from l operands (i + 1)) (sym (map-append abstract_target xs (x ∷ [])))

-- a slot with no operand
pub fill_short : (form : List Slot) (operands : List Given) (o : Operands) → 0 < length form →
    length operands ≡ 0 → all_filled form (map abstract_operand operands) o ≡ None
unfolding all_filled
fill_short [] operands o h e = absurd (omega (arith, h))
fill_short (s ∷ form) [] o h e = refl
fill_short (s ∷ form) (p ∷ ps) o h e = absurd (omega (arith, e))
