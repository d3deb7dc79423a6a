-- Targets, target by target.
use Rattle.std.proofs.Common.{◌≡◌, ℕ, ◌<◌, ◌≤◌, ◌+◌, ◌&&◌, List, [], ◌∷◌, ◌++◌}
use Rattle.std.proofs.Common.{length, drop, get_or, refl, sym, ap, add-one}
use Rattle.std.proofs.Common.{append_assoc, append-nil, map, Result, Ok, Err}
use Rattle.std.specs.List.{list_all}
use Rattle.std.proofs.Math.Seq.{drop-cons}
use Rattle.std.proofs.Math.ListN.{drop_of_length-le}
use Rattle.fp_asm.specs.First.{Labels}
use Rattle.fp_asm.specs.Second.{target_word, all_resolved, fits_word}
use Rattle.fp_asm.specs.AbstractOperands.{abstract_target}
use Rattle.fp_asm.specs.Faults.{next}
use Rattle.fp_asm.specs.declared.refusal.AsmNo.{AsmNo}
use Rattle.fp_asm.specs.declared.operands.Target.TheVariants as target

abbrev Targets : Type 0
Targets = List target.the_data

here : (xs : Targets) (i : ℕ) (d : target.the_data) → i < length xs →
    drop i xs ≡ get_or xs i d ∷ drop (i + 1) xs
here xs i d h = rw (add-one i) (drop-cons xs i d h)

-- the words from index i on, after those of a list
pub resolved_from : Labels → List ℕ → Targets → ℕ → Result (List ℕ) AsmNo
resolved_from labels found targets i =
    next (all_resolved labels (map abstract_target (drop i targets))) (λ ws. Ok (found ++ ws))

pub resolved_start : (labels : Labels) (targets : Targets) →
    all_resolved labels (map abstract_target targets) ≡ resolved_from labels [] targets 0
unfolding resolved_from
resolved_start labels targets = go (all_resolved labels (map abstract_target targets))
  where
    go : (r : Result (List ℕ) AsmNo) → r ≡ next r (λ ws. Ok ([] ++ ws))
    go (Ok ws) = refl
    go (Err e) = refl

one_more : (w : ℕ) (found : List ℕ) (r : Result (List ℕ) AsmNo) →
    next (next r (λ ws. Ok (w ∷ ws))) (λ ws. Ok (found ++ ws))
    ≡ next r (λ ws. Ok ((found ++ w ∷ []) ++ ws))
one_more w found (Ok ws) = ap Ok (sym (append_assoc found (w ∷ []) ws))
one_more w found (Err e) = refl

module _ (labels : Labels) (found : List ℕ) (targets : Targets) (i : ℕ) (d : target.the_data) where
  pub resolved_more : (w : ℕ) → i < length targets →
      target_word labels (abstract_target (get_or targets i d)) ≡ Ok w →
      resolved_from labels found targets i ≡ resolved_from labels (found ++ w ∷ []) targets (i + 1)
  unfolding resolved_from all_resolved
  resolved_more w h e =
      rw (here targets i d h, e)
      (one_more w found (all_resolved labels (map abstract_target (drop (i + 1) targets))))

  pub resolved_fault : (code : AsmNo) → i < length targets →
      target_word labels (abstract_target (get_or targets i d)) ≡ Err code →
      resolved_from labels found targets i ≡ Err code
  unfolding resolved_from all_resolved
  resolved_fault code h e = rw (here targets i d h, e) refl

pub resolved_end : (labels : Labels) (found : List ℕ) (targets : Targets) (i : ℕ) →
    length targets ≤ i → resolved_from labels found targets i ≡ Ok found
unfolding resolved_from all_resolved
resolved_end labels found targets i h = rw (drop_of_length-le targets h) (ap Ok (append-nil found))

pub all_fit : (xs : Targets) →
    list_all fits_word (map abstract_target xs) ≡ list_all (λ x. fits_word (abstract_target x)) xs
all_fit [] = refl
all_fit (x ∷ xs) = ap (λ b. fits_word (abstract_target x) && b) (all_fit xs)
