use Rattle.std.proofs.Common.{◌≡◌, ◌<◌, ◌≤◌, ◌+◌, ◌*◌, ◌^◌, ℕ, zero, suc, List, []}
use Rattle.std.proofs.Common.{◌∷◌, true, length, drop, refl, sym, ap, subst, ◌∙◌, arith}
use Rattle.std.specs.Prelude.{slice_index_or}
use Rattle.std.specs.List.{list_all}
use Rattle.std.proofs.Math.Seq.{drop-cons}
use Rattle.call_bounds.proofs.RoutineLines.{both}
use Rattle.call_bounds.specs.RoutinesFile.{digit, is_digit, number_from}
use Rattle.std.proofs.Math.Nat.{pow-le-pow_right}
use Rattle.call_bounds.proofs.routines_file.number_of.Goals as goal

few-digits : (n i len : ℕ) → n + 1 ≤ 16 ^ i → i < len → len ≡ 8 → n + 1 ≤ 268435456
few-digits n i len small inside most =
    let few : i ≤ 7 = omega arith in
    let sixteen : 0 < 16 = omega arith in
    let all : 16 ^ i ≤ 16 ^ 7 = pow-le-pow_right sixteen few in
    omega (arith, all)

pub overflow_mul-number : goal.overflow_mul-number
overflow_mul-number c =
    let inside : c.loop-byte.byte-index < length c.args.digits.now = omega arith in
    let small = few-digits c.loop-byte.number c.loop-byte.byte-index
    (length c.args.digits.now) c.loop-byte.invariant.small inside c.requires.len in
    omega (arith, small)

pub overflow_add-number : goal.overflow_add-number
overflow_add-number c =
    let inside : c.loop-byte.byte-index < length c.args.digits.now = omega arith in
    let small = few-digits c.loop-byte.number c.loop-byte.byte-index
    (length c.args.digits.now) c.loop-byte.invariant.small inside c.requires.len in
    omega (arith, small, c.digit.ensures.small)

drop-all : (i : ℕ) (digits : List ℕ) → length digits ≤ i → drop i digits ≡ []
drop-all zero [] end = refl
drop-all (suc i) [] end = refl
drop-all zero (d ∷ ds) end = absurd (omega arith)
drop-all (suc i) (d ∷ ds) end = drop-all i ds (omega arith)

digit-next : (n i m d : ℕ) (digits : List ℕ) → i < length digits →
    m ≡ suc i → d ≡ digit (slice_index_or digits i 0) →
    number_from n (drop i digits) ≡ number_from (n * 16 + d) (drop m digits)
unfolding number_from
digit-next n i m d digits inside next is = rw (drop-cons digits i 0 inside, next, is) refl

digits-next : (i m : ℕ) (digits : List ℕ) → i < length digits → m ≡ suc i →
    list_all is_digit (drop i digits) ≡ true → list_all is_digit (drop m digits) ≡ true
digits-next i m digits inside next all =
    rw next ((both (is_digit (slice_index_or digits i 0)) (list_all is_digit (drop (suc i) digits))
    (ap (list_all is_digit) (sym (drop-cons digits i 0 inside)) ∙ all)).1)

power-next : (n d i : ℕ) → n + 1 ≤ 16 ^ i → d < 16 → n * 16 + d + 1 ≤ 16 ^ suc i
power-next n d i small digit = omega arith

pub loop-byte-preserved : goal.loop-byte-preserved
loop-byte-preserved c =
    let inside : c.loop-byte.byte-index < length c.args.digits.now = omega arith in
    let next : c.loop-byte.byte-index + 1 ≡ suc c.loop-byte.byte-index = omega arith in
    record {
      value =
          c.loop-byte.invariant.value
          ∙ digit-next c.loop-byte.number c.loop-byte.byte-index (c.loop-byte.byte-index + 1)
          c.digit.result c.args.digits.now inside next c.digit.ensures.value;
      digits =
          digits-next c.loop-byte.byte-index
          (c.loop-byte.byte-index + 1) c.args.digits.now inside next c.loop-byte.invariant.digits;
      small =
          subst (λ k. c.loop-byte.number * 16 + c.digit.result + 1 ≤ 16 ^ k) (sym next)
          (power-next c.loop-byte.number c.digit.result c.loop-byte.byte-index
          c.loop-byte.invariant.small c.digit.ensures.small);
    }

all-read : (n k i : ℕ) (digits : List ℕ) → n ≡ number_from k (drop i digits) →
    length digits ≤ i → n ≡ k
unfolding number_from
all-read n k i digits is end = is ∙ ap (number_from k) (drop-all i digits end)

pub returns : goal.returns
returns c =
    sym (all-read (number_from 0 c.args.digits.now) c.loop-byte.number c.loop-byte.byte-index
    c.args.digits.now c.loop-byte.invariant.value (omega arith))
