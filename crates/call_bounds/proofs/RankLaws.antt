-- Without recursion, fewer functions are reachable from a callee than from its caller.
use Rattle.std.proofs.Common.{◌≡◌, ℕ, zero, suc, ◌+◌, ◌<◌, ◌≤◌, refl, arith, sym}
use Rattle.std.proofs.Common.{◌∙◌, cond, Bool, true, false, List, [], ◌∷◌, length}
use Rattle.std.proofs.lemmas.List.Sums.{sum_by-cons}
use Rattle.call_bounds.specs.Reachability.{HasCall, IsExact, IsCalled, is_met, unmet_count}

-- reachability by calls is transitive
pub lead-on : {n : ℕ} {table : List Bool} {a b c : ℕ} → IsCalled n table a b →
    IsCalled n table b c → IsCalled n table a c
lead-on l (IsCalled.one call) = IsCalled.more l call
lead-on l (IsCalled.more m call) = IsCalled.more (lead-on l m) call

unmet-cons : (b : Bool) (bs : List Bool) → unmet_count (b ∷ bs) ≡ cond b 0 1 + unmet_count bs
unmet-cons b bs = sum_by-cons (λ b. cond b 0 1) b bs

unmet-≤ : (xs ys : List Bool) → length xs ≡ length ys →
    ((k : ℕ) → is_met ys k ≡ true → is_met xs k ≡ true) → unmet_count xs ≤ unmet_count ys
unmet-≤ [] [] e h = omega arith
unmet-≤ [] (y ∷ ys) e h = absurd (omega arith)
unmet-≤ (x ∷ xs) [] e h = absurd (omega arith)
unmet-≤ (x ∷ xs) (y ∷ ys) e h = go x y (h 0) (unmet-≤ xs ys (omega arith) (λ k. h (suc k)))
  where
    go : (x y : Bool) → (y ≡ true → x ≡ true) → unmet_count xs ≤ unmet_count ys →
        unmet_count (x ∷ xs) ≤ unmet_count (y ∷ ys)
    go true true h le = let a = unmet-cons true xs in let b = unmet-cons true ys in omega arith
    go true false h le = let a = unmet-cons true xs in let b = unmet-cons false ys in omega arith
    go false true h le = absurd (let z : false ≡ true = h refl in cc)
    go false false h le = let a = unmet-cons false xs in let b = unmet-cons false ys in omega arith

unmet-< : (xs ys : List Bool) (k : ℕ) → length xs ≡ length ys →
    ((k : ℕ) → is_met ys k ≡ true → is_met xs k ≡ true) → is_met xs k ≡ true → is_met ys k ≡ false →
    unmet_count xs < unmet_count ys
unmet-< [] [] k e h a b = cc
unmet-< [] (y ∷ ys) k e h a b = absurd (omega arith)
unmet-< (x ∷ xs) [] k e h a b = absurd (omega arith)
unmet-< (x ∷ xs) (y ∷ ys) zero e h a b = go x y a b (unmet-≤ xs ys (omega arith) (λ k. h (suc k)))
  where
    go : (x y : Bool) → x ≡ true → y ≡ false → unmet_count xs ≤ unmet_count ys →
        unmet_count (x ∷ xs) < unmet_count (y ∷ ys)
    go true false a b le = let c = unmet-cons true xs in let d = unmet-cons false ys in omega arith
    go true true a b le = cc
    go false y a b le = cc
unmet-< (x ∷ xs) (y ∷ ys) (suc k) e h a b =
    go x y (h 0) (unmet-< xs ys k (omega arith) (λ k. h (suc k)) a b)
  where
    go : (x y : Bool) → (y ≡ true → x ≡ true) → unmet_count xs < unmet_count ys →
        unmet_count (x ∷ xs) < unmet_count (y ∷ ys)
    go true true h lt = let c = unmet-cons true xs in let d = unmet-cons true ys in omega arith
    go true false h lt = let c = unmet-cons true xs in let d = unmet-cons false ys in omega arith
    go false true h lt = absurd (let z : false ≡ true = h refl in cc)
    go false false h lt = let c = unmet-cons false xs in let d = unmet-cons false ys in omega arith

not-true : (b : Bool) → (b ≡ true → ⊥) → b ≡ false
not-true true h = absurd (h refl)
not-true false h = refl

-- more functions are reachable from the caller than from the callee
pub rank-falls : (n : ℕ) (table : List Bool) (r t : ℕ) (of_r of_t : List Bool) →
    IsExact n table r of_r → IsExact n table t of_t → HasCall n table r t →
    (IsCalled n table t t → ⊥) → unmet_count of_r < unmet_count of_t
rank-falls n table r t of_r of_t er et call once =
    unmet-< of_r of_t t (er.count ∙ sym et.count)
    (λ k h. (er.exact k).1 (lead-on (IsCalled.one call) ((et.exact k).0 h)))
    ((er.exact t).1 (IsCalled.one call))
    (not-true (is_met of_t t) (λ h. once ((et.exact t).0 h)))
