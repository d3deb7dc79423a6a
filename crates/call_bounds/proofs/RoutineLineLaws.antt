-- The routine of a line, by its checks.
use Rattle.std.proofs.Common.{◌≡◌, ◌∙◌, ℕ, ◌<◌, ◌≤◌, ◌==◌, Bool, true, false}
use Rattle.std.proofs.Common.{List, [], ◌∷◌, Option, Result, arith, refl, ap}
use Rattle.std.specs.Prelude.{not}
use Rattle.std.proofs.lemmas.Bool.Decides.{nat_tests}
use Rattle.fp_image.specs.Checks.{first_fault, unless}
use Rattle.call_bounds.specs.RoutinesFile.{check, has_form, head_digits, is_above, is_placed}
use Rattle.call_bounds.specs.RoutinesFile.{last_digits, number_from, routine_at, routine_in}
use Rattle.call_bounds.specs.declared.routines_refusals.RoutinesNo.TheVariants.{TooMany, BadLine}
use Rattle.call_bounds.specs.declared.routines_refusals.RoutinesNo.TheVariants.{BadPlace, Order}
use Rattle.call_bounds.specs.declared.routines_refusals.RoutinesRefused.{RoutinesRefused}
use Rattle.call_bounds.specs.declared.routines.Routine.{Routine}

-- the checks of a line: the number of routines, the form, the placement, and the rising order
abbrev pub checked : ℕ → Bool → Bool → Bool → Bool → Routine → Result Routine RoutinesRefused
checked n many form placed above r =
    unless (first_fault (check n many TooMany ∷ check n (not form) BadLine
    ∷ check n (not placed) BadPlace ∷ check n (not above) Order ∷ [])) r

as-checked : (size n : ℕ) (before : Option Routine) (line : List ℕ) →
    routine_at size n before line ≡ checked n (n == 65) (has_form line)
    (is_placed size (routine_in line)) (is_above before (routine_in line)) (routine_in line)
unfolding routine_at
as-checked size n before line = refl

pub by-checks : (size n : ℕ) (before : Option Routine) (line : List ℕ)
    (many form placed above : Bool) → (n == 65) ≡ many → has_form line ≡ form →
    is_placed size (routine_in line) ≡ placed → is_above before (routine_in line) ≡ above →
    routine_at size n before line ≡ checked n many form placed above (routine_in line)
by-checks size n before line many form placed above m f p a =
    let r = routine_in line in
    as-checked size n before line
    ∙ (ap (λ b. checked n b (has_form line) (is_placed size r) (is_above before r) r) m
    ∙ (ap (λ b. checked n many b (is_placed size r) (is_above before r) r) f
    ∙ (ap (λ b. checked n many form b (is_above before r) r) p
    ∙ ap (λ b. checked n many form placed b r) a)))

-- a 65th line is one too many, and no earlier one is
pub too-many : (n : ℕ) → 64 < n → n ≤ 65 → (n == 65) ≡ true
too-many n more most = grind (arith, nat_tests)

pub not-too-many : (n : ℕ) → n ≤ 64 → (n == 65) ≡ false
not-too-many n few = grind (arith, nat_tests)

abbrev with : ℕ → ℕ → Routine
with head last = record { head = head; last = last }

-- the routine of the two numbers of a line
pub in-line : (line : List ℕ) (head last : ℕ) → head ≡ number_from 0 (head_digits line) →
    last ≡ number_from 0 (last_digits line) → record { head = head; last = last } ≡ routine_in line
in-line line head last h l =
    ap (λ n. with n last) h ∙ ap (with (number_from 0 (head_digits line))) l
