use Rattle.std.proofs.Common.{◌≡◌, ℕ, Some, subst, sym}
use Rattle.bound_calc.specs.Matrices.{entry}
use Rattle.bound_calc.proofs.PassLaws.{none-entry}
use Rattle.bound_calc.proofs.pass.without_sums.Goals as goal

pub returns-in_default : goal.returns-in_default
returns-in_default c =
    subst (λ m. (p q e : ℕ) → entry m p q ≡ Some e → ⊥) (sym c.in_ok-new.ensures.ok) none-entry

pub returns : goal.returns
returns c = none-entry
