-- The answer over the first bytes of a list of routines, one more than the limit, is that over the
-- whole list.
use Rattle.std.proofs.Common.{◌≡◌, ℕ, zero, suc, ◌+◌, ◌*◌, ◌<◌, List, [], ◌∷◌, length}
use Rattle.std.proofs.Common.{take, drop, min, Option, Some, None, Result, Ok, Err}
use Rattle.std.proofs.Common.{refl, sym, ap, subst, ◌∙◌, arith, take-append-drop}
use Rattle.std.proofs.Math.Seq.{take-nil}
use Rattle.std.proofs.lemmas.List.{drop-take, length-take, take-take}
use Rattle.fp_image.specs.Checks.{and_then}
use Rattle.call_bounds.specs.RoutinesFile.{lines_of, routine_at, routines_from, routines_of}
use Rattle.call_bounds.specs.declared.routines_refusals.RoutinesNo.TheVariants.{TooMany}
use Rattle.call_bounds.specs.declared.routines_refusals.RoutinesRefused.{RoutinesRefused}
use Rattle.call_bounds.specs.declared.routines_refusals.RoutinesRefused.TheVariants.{Fault}
use Rattle.call_bounds.specs.declared.routines.Routine.{Routine}
use Rattle.call_bounds.proofs.RoutineLines.{line-next, line-stops}
use Rattle.commands.specs.CallsAnswer.{of_routines, routines_in}
use Rattle.commands.proofs.Cuts.{IsCut}

-- the routines of the bytes, 18 bytes after 18
next : (size n : ℕ) (before : Option Routine) (bytes : List ℕ) (r : Routine) →
    routine_at size n before (take 18 bytes) ≡ Ok r →
    routines_from size n before (lines_of bytes) ≡ and_then
    (routines_from size (suc n) (Some r) (lines_of (drop 18 bytes))) (λ more. Ok (r ∷ more))
next size n before bytes r is =
    ap (λ b. routines_from size n before (lines_of b)) (sym (take-append-drop 18 bytes))
    ∙ line-next size n before (take 18 bytes) (drop 18 bytes) r is

stops : (size n : ℕ) (before : Option Routine) (bytes : List ℕ) (e : RoutinesRefused) →
    0 < length bytes → routine_at size n before (take 18 bytes) ≡ Err e →
    routines_from size n before (lines_of bytes) ≡ Err e
stops size n before bytes e some is =
    let whole = sym (take-append-drop 18 bytes) in
    ap (λ b. routines_from size n before (lines_of b)) whole
    ∙ line-stops size n before (take 18 bytes) (drop 18 bytes) e
    (length-take 18 bytes ∙ ap (λ b. min 18 (length b)) whole)
    (let Some : List ℕ → Type 0 = λ b. 0 < length b in subst Some whole some) is

-- a 65th line is one too many
past : (size n : ℕ) (before : Option Routine) (line : List ℕ) → n ≡ 65 →
    routine_at size n before line ≡ Err (Fault n TooMany)
unfolding routine_at
past size n before line is = rw is refl

-- the result depends only on that many lines and the first byte after them
cut-from : (size m n : ℕ) (before : Option Routine) (whole : List ℕ) → n + m ≡ 65 →
    routines_from size n before (lines_of (take (m * 18 + 1) whole))
    ≡ routines_from size n before (lines_of whole)
cut-from size m n before [] all =
    ap (λ b. routines_from size n before (lines_of b)) (take-nil (m * 18 + 1))
cut-from size zero n before (b ∷ bs) all =
    let last : n ≡ 65 = omega (arith, all) in
    stops size n before (b ∷ []) (Fault n TooMany) (omega arith) (past size n before _ last)
    ∙ sym (stops size n before (b ∷ bs) (Fault n TooMany) (omega arith) (past size n before _ last))
cut-from size (suc m) n before (b ∷ bs) all =
    go (routine_at size n before (take 18 (b ∷ bs))) refl
    (λ r. cut-from size m (suc n) (Some r) (drop 18 (b ∷ bs)) (omega (arith, all)))
  where
    whole : List ℕ
    whole = b ∷ bs

    prefix : List ℕ
    prefix = take (suc m * 18 + 1) (b ∷ bs)

    count : suc m * 18 + 1 ≡ 18 + (m * 18 + 1)
    count = omega arith

    first : take 18 prefix ≡ take 18 whole
    first =
        ap (λ k. take 18 (take k whole)) count
        ∙ take-take 18 (18 + (m * 18 + 1)) whole (omega arith)

    left : drop 18 prefix ≡ take (m * 18 + 1) (drop 18 whole)
    left = ap (λ k. drop 18 (take k whole)) count ∙ drop-take 18 (m * 18 + 1) whole

    some : 0 < length prefix
    some =
        let part : length prefix ≡ min (suc m * 18 + 1) (length (b ∷ bs)) =
        length-take (suc m * 18 + 1) (b ∷ bs) in
        let long : 0 < length (b ∷ bs) = omega arith in
        omega (arith, part, long)

    go : (answer : Result Routine RoutinesRefused) →
        routine_at size n before (take 18 whole) ≡ answer →
        ((r : Routine) →
        routines_from size (suc n) (Some r) (lines_of (take (m * 18 + 1) (drop 18 whole)))
        ≡ routines_from size (suc n) (Some r) (lines_of (drop 18 whole))) →
        routines_from size n before (lines_of prefix) ≡ routines_from size n before (lines_of whole)
    go (Ok r) is more =
        next size n before prefix r (ap (routine_at size n before) first ∙ is)
        ∙ ap (λ q. and_then q (λ more. Ok (r ∷ more)))
        (ap (λ b. routines_from size (suc n) (Some r) (lines_of b)) left ∙ more r)
        ∙ sym (next size n before whole r is)
    go (Err e) is more =
        stops size n before prefix e some (ap (routine_at size n before) first ∙ is)
        ∙ sym (stops size n before whole e (omega arith) is)

pub routines-cut : (size : ℕ) → IsCut (routines_in size) 1152
unfolding routines_in routines_of
routines-cut size whole = ap of_routines (cut-from size 64 1 None whole refl)
