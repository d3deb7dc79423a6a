-- Words that end a routine, one by one.
use Rattle.std.proofs.Common.{◌≡◌, ℕ, ◌+◌, ◌<◌, ◌⊎◌, refl, arith, inl, inr}
use Rattle.std.proofs.Common.{sym, subst, ap, ◌∙◌, List, Bool, true, false}
use Rattle.std.proofs.Common.{Option, Some, None, slice_index_or, replicate}
use Rattle.region_tree.specs.Walk.{IsOwn, Positions}
use Rattle.bound_calc.specs.declared.matrix.Matrix.{Matrix}
use Rattle.bound_calc.specs.Best.{Either, In, IsBest, Stays, Then, ceiling}
use Rattle.bound_calc.specs.declared.hop.Hop.{Hop}
use Rattle.bound_calc.specs.Hops.{Hops, IsHops}
use Rattle.bound_calc.specs.Matrices.{entry}
use Rattle.bound_calc.specs.Propagation.{Ended, EndedHere, matrix_at, no_matrix}
use Rattle.bound_calc.specs.Section.{Steps}
use Rattle.bound_calc.proofs.BestLaws.{Within, best-either-then, best-same}
use Rattle.bound_calc.proofs.Entries.{min-under}
use Rattle.bound_calc.proofs.PassLaws.{none-entry, with-steps}

pub ended-none : (s : Positions) (ends : List Bool) (at : List Matrix) (m : Matrix) →
    ((p q c : ℕ) → entry m p q ≡ Some c → ⊥) → IsBest (entry m) (Ended s ends at 0)
ended-none s ends at m none =
    ((λ p c q e. absurd (let b = e.below in omega arith)), (λ p e q i. absurd (none p q e i)))

wider : {s : Positions} {ends : List Bool} {at : List Matrix} {n p c q : ℕ} →
    Ended s ends at n p c q → Ended s ends at (n + 1) p c q
wider e =
    record { index = e.index; below = let b = e.below in omega arith; is = e.is; jump = e.jump }

pub ended-more : (s : Positions) (ends : List Bool) (at : List Matrix) (n : ℕ)
    (is_end : Bool) (back new : Matrix) → slice_index_or ends n false ≡ is_end →
    EndedHere s is_end (slice_index_or at n no_matrix) back new →
    IsBest (entry back) (Ended s ends at n) → IsBest (entry new) (Ended s ends at (n + 1))
ended-more s ends at n false back new e h best =
    subst (λ m. IsBest (entry m) (Ended s ends at (n + 1))) (sym (h.other refl))
    (best-same (λ p c q z. wider z) (λ p c q z. low p c q z
    (let y : (z.index < n) ⊎ (z.index ≡ n) = (let b = z.below in grind arith) in y)) best)
  where
    low : (p c q : ℕ) → (z : Ended s ends at (n + 1) p c q) → (z.index < n) ⊎ (z.index ≡ n) →
        Ended s ends at n p c q
    low p c q z (inl lt) = record { index = z.index; below = lt; is = z.is; jump = z.jump }
    low p c q z (inr same) =
        absurd (let w : true ≡ false = sym z.is
        ∙ (ap (λ k. slice_index_or ends k false) same ∙ e) in let none : ⊥ = cc in none)
ended-more s ends at n true back new e h best =
    best-same there away
    (best-either-then best (itself (slice_index_or at n no_matrix)) (h.there refl))
  where
    itself : (m : Matrix) → IsBest (entry m) (In (entry m))
    itself m = ((λ p c q z. (c, z, min-under c c ceiling (omega arith))), (λ p e q z. (e, z, refl)))

    there : Within (Either (Ended s ends at n) (Then (In (matrix_at at n)) (Steps s 3)))
        (Ended s ends at (n + 1))
    there p c q (inl z) = wider z
    there p c q (inr t) = record { index = n; below = omega arith; is = e; jump = t }

    sorted : (p c q : ℕ) → (z : Ended s ends at (n + 1) p c q) → (z.index < n) ⊎ (z.index ≡ n) →
        Either (Ended s ends at n) (Then (In (matrix_at at n)) (Steps s 3)) p c q
    sorted p c q z (inl lt) = inl (record { index = z.index; below = lt; is = z.is; jump = z.jump })
    sorted p c q z (inr same) =
        inr (subst (λ k. Then (In (matrix_at at k)) (Steps s 3) p c q) same z.jump)

    away : Within (Ended s ends at (n + 1))
        (Either (Ended s ends at n) (Then (In (matrix_at at n)) (Steps s 3)))
    away p c q z =
        sorted p c q z
        (let y : (z.index < n) ⊎ (z.index ≡ n) = (let b = z.below in grind arith) in y)

-- a jump from an own position, without a step before it
pub jump-best : (s : Positions) (one : Matrix) (hops : List (Option Hop)) (m : Matrix) →
    IsBest (entry one) (Stays (IsOwn s)) → IsHops s 3 hops → IsBest (entry m)
    (Either (In (entry (record { best = replicate 8 (replicate 8 None) })))
    (Then (In (entry one)) (Hops hops))) → IsBest (entry m) (Steps s 3)
jump-best s one hops m still are best =
    best-same there away (best-either-then nothing still (with-steps are best))
  where
    nothing : IsBest (entry (record { best = replicate 8 (replicate 8 None) })) (λ p c q. ⊥)
    nothing = ((λ p c q x. absurd x), (λ p e q is. absurd (none-entry p q e is)))

    there : Within (Either (λ p c q. ⊥) (Then (Stays (IsOwn s)) (Steps s 3))) (Steps s 3)
    there p c q (inl x) = absurd x
    there p c q (inr t) =
        subst (λ p. Steps s 3 p c q) (sym t.first.1)
        (subst (λ c. Steps s 3 t.at c q) (omega (arith, t.cost, t.first.2)) t.second)

    away : Within (Steps s 3) (Either (λ p c q. ⊥) (Then (Stays (IsOwn s)) (Steps s 3)))
    away p c q t = inr (record {
      at = p;
      one = 0;
      two = c;
      first = (t.start, refl, refl);
      second = t;
      cost = omega arith;
    })
