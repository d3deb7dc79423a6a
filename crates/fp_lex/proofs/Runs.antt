-- Numbers of digits, digit by digit, and runs.
use Rattle.std.proofs.Common.{◌≡◌, ℕ, zero, suc, ◌<◌, ◌≤◌, ◌+◌, ◌-◌, ◌*◌}
use Rattle.std.proofs.Common.{◌^◌, List, [], ◌∷◌, length, drop, get_or, true}
use Rattle.std.proofs.Common.{Some, None, refl, arith, add-one, length-take}
use Rattle.std.proofs.Math.Seq.{drop-cons}
use Rattle.std.proofs.Math.ListN.{drop_of_length-le}
use Rattle.std.proofs.lemmas.Bool.Decides.{nat_tests}
use Rattle.fp_lex.specs.Bytes.{number_from, digit, fit, run, is_rest, is_head}

pub number_here : (base n : ℕ) (bs : List ℕ) (k d : ℕ) → k < length bs →
    number_from base n (drop k bs)
    ≡ number_from base (n * base + digit (get_or bs k d)) (drop (k + 1) bs)
unfolding number_from
number_here base n bs k d h = rw (drop-cons bs k d h, add-one) refl

pub number_end : (base n : ℕ) (bs : List ℕ) (k : ℕ) → length bs ≤ k →
    number_from base n (drop k bs) ≡ n
unfolding number_from
number_end base n bs k h = rw (drop_of_length-le bs h) refl

-- a number never falls with a further digit
pub number_grows : (base n : ℕ) (bs : List ℕ) → 0 < base → n ≤ number_from base n bs
unfolding number_from
number_grows base n [] h = omega (arith)
number_grows base n (b ∷ bs) h =
    omega (arith, number_grows base (n * base + digit b) bs h, grows base n h)
  where
    grows : (base n : ℕ) → 0 < base → n ≤ n * base
    grows zero n h = absurd (omega (arith, h))
    grows (suc base) n h = omega arith

pub fit_over : (base n : ℕ) (bs : List ℕ) (k : ℕ) → 0 < base → k < length bs →
    fit (n * base + digit (get_or bs k 0)) ≡ None → fit (number_from base n (drop k bs)) ≡ None
unfolding fit
fit_over base n bs k h lt e =
    let grows = number_grows base (n * base + digit (get_or bs k 0)) (drop (k + 1) bs) h in
    let over : 2 ^ 32 - 1 < n * base + digit (get_or bs k 0) = grind (arith, nat_tests, e) in
    rw (number_here base n bs k 0 lt) (grind (arith, nat_tests, grows, over))

pub fit_end : (base n : ℕ) (bs : List ℕ) (k : ℕ) → length bs ≤ k → n < 2 ^ 32 →
    fit (number_from base n (drop k bs)) ≡ Some n
unfolding fit
fit_end base n bs k h lt = rw (number_end base n bs k h) (grind (arith, nat_tests, lt))

-- a name has a byte
pub run_some : (bs : List ℕ) → 0 < length bs → is_head (get_or bs 0 0) ≡ true → 0 < run is_rest bs
unfolding run
run_some [] h e = absurd (omega (arith, h))
run_some (b ∷ bs) h e =
    let rest : is_rest b ≡ true = rw e refl in rw (rest, length-take) (omega arith)

-- one more digit, or none
pub ruleset counting = (fit_over, fit_end, number_here, number_end, number_grows)
