-- The first element that is refused.
use Rattle.std.proofs.Common.{◌≡◌, ℕ, ◌+◌, Bool, true, false, not, ◌&&◌}
use Rattle.std.proofs.Common.{cond, List, [], ◌∷◌, Some, refl, ap, ◌∙◌}
use Rattle.std.specs.Option.{is_none}
use Rattle.std.specs.List.{list_all, position, position_from}
use Rattle.std.proofs.lemmas.Iterator.Adapters.{position_from-zero}

after : (p : ℕ → Bool) (k : ℕ) (xs : List ℕ) →
    is_none (position_from (λ x. not (p x)) k xs) ≡ list_all p xs
after p k [] = refl
after p k (x ∷ xs) =
    elim (p x) as (λ b. is_none (cond (not b) (Some k) (position_from (λ y. not (p y)) (k + 1) xs))
    ≡ b && list_all p xs) [
      | true ↦ after p (k + 1) xs
      | false ↦ refl
    ]

-- none is refused exactly if all are accepted
pub is_none-position : (p : ℕ → Bool) (xs : List ℕ) →
    is_none (position (λ x. not (p x)) xs) ≡ list_all p xs
is_none-position p xs = ap is_none (position_from-zero (λ x. not (p x)) xs) ∙ after p 0 xs
