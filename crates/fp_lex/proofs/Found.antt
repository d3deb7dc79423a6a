-- The token at the start of some bytes: its span and its text.
use Rattle.std.proofs.Common.{◌≡◌, ℕ, zero, suc, ◌<◌, ◌≤◌, ◌+◌, ◌-◌, ◌^◌, ◌||◌, ◌==◌}
use Rattle.std.proofs.Common.{Bool, List, [], ◌∷◌, length, take, drop, true, false}
use Rattle.std.proofs.Common.{Ok, Err, refl, subst, arith, length-take, nat_lt, cond}
use Rattle.std.specs.List.{list_all}
use Rattle.std.proofs.lemmas.List.Sums.{take_while-cons, AllPass-from_list_all}
use Rattle.std.proofs.lemmas.Bool.Decides.{nat_tests}
use Rattle.fp_lex.specs.Bytes.{is_digit, is_hex, is_head, is_rest, is_mark, run, starts, number_of}
use Rattle.fp_lex.specs.Tokens.{is_prefixed, digits_at, number_at, name_at, mark_at, token_at}
use Rattle.fp_lex.specs.Texts.{IsText, IsNumeral}
use Rattle.fp_lex.specs.declared.token.Token.{Token}
use Rattle.fp_lex.specs.declared.token.Kind.TheVariants.{Number}
use Rattle.fp_lex.specs.declared.token.LexNo.TheVariants as no

-- a token at column i, where these bytes begin
pub record IsFound (i : ℕ) (bs : List ℕ) (t : Token) : Type 0 where
  pub starts_at : t.start ≡ i
  pub rises : i < t.end
  pub inside : t.end ≤ i + length bs
  pub reads : IsText t.kind (take (t.end - i) bs) t.value

run_within : (p : ℕ → Bool) (bs : List ℕ) → run p bs ≤ length bs
unfolding run
run_within p bs = rw length-take (omega arith)

run_cons : (p : ℕ → Bool) (b : ℕ) (bs : List ℕ) → p b ≡ true → run p (b ∷ bs) ≡ suc (run p bs)
unfolding run
run_cons p b bs h = rw (take_while-cons, h) refl

run_none : (p : ℕ → Bool) (b : ℕ) (bs : List ℕ) → p b ≡ false → run p (b ∷ bs) ≡ 0
unfolding run
run_none p b bs h = rw (take_while-cons, h) refl

run_nil : (p : ℕ → Bool) → run p [] ≡ 0
unfolding run
run_nil p = refl

-- the bytes of a run pass the test
run_passes : (p : ℕ → Bool) (bs : List ℕ) → list_all p (take (run p bs) bs) ≡ true
run_passes p [] = rw (run_nil p) refl
run_passes p (b ∷ bs) = go (p b) refl (run_passes p bs)
  where
    go : (t : Bool) → p b ≡ t → list_all p (take (run p bs) bs) ≡ true →
        list_all p (take (run p (b ∷ bs)) (b ∷ bs)) ≡ true
    go true e more = rw (run_cons p b bs e, e) more
    go false e more = rw (run_none p b bs e) refl

found_name : (i b : ℕ) (bs : List ℕ) → is_head b ≡ true → IsFound i (b ∷ bs) (name_at i (b ∷ bs))
found_name i b bs h =
    let rest : is_rest b ≡ true = rw h refl in
    let n : run is_rest (b ∷ bs) ≡ suc (run is_rest bs) = run_cons is_rest b bs rest in
    let size : (i + run is_rest (b ∷ bs)) - i ≡ suc (run is_rest bs) = omega (arith, n) in
    let passes = rw n at (run_passes is_rest (b ∷ bs)) in
    record {
      starts_at = refl;
      rises = omega (arith, n);
      inside = omega (arith, run_within is_rest (b ∷ bs));
      reads = record {
        begins = rw size h;
        goes_on =
            AllPass-from_list_all is_rest (take ((i + run is_rest (b ∷ bs)) - i) (b ∷ bs))
            (rw size passes);
        valued = refl;
      };
    }

found_mark : (i b : ℕ) (bs : List ℕ) → is_mark b ≡ true → IsFound i (b ∷ bs) (mark_at i b)
found_mark i b bs h =
    let one : (i + 1) - i ≡ 1 = omega arith in
    record {
      starts_at = refl;
      rises = omega arith;
      inside = omega arith;
      reads = record { marks = h; alone = rw one refl };
    }

-- a prefix of bytes that do not begin with `0x` doesn't either
not_prefixed : (n : ℕ) (bs : List ℕ) → is_prefixed bs ≡ false → is_prefixed (take n bs) ≡ false
not_prefixed zero bs h = refl
not_prefixed (suc n) [] h = refl
not_prefixed (suc n) (a ∷ []) h = go n
  where
    go : (n : ℕ) → is_prefixed (take (suc n) (a ∷ [])) ≡ false
    go zero = refl
    go (suc n) = refl
not_prefixed (suc zero) (a ∷ b ∷ bs) h = refl
not_prefixed (suc (suc n)) (a ∷ b ∷ bs) h = h

abbrev number_token : ℕ → ℕ → ℕ → ℕ → List ℕ → Token
number_token i skip base count bs = record {
  kind = Number;
  start = i;
  end = i + (skip + count);
  value = number_of base (take count (drop skip bs));
}

-- a number that is found has a digit
pub record HasDigits (i skip base count : ℕ) (bs : List ℕ) (t : Token) : Type 0 where
  pub some : 0 < count
  pub is : number_token i skip base count bs ≡ t

has_digits : (i skip base count : ℕ) (bs : List ℕ) (t : Token) →
    digits_at i skip base count bs ≡ Ok t → HasDigits i skip base count bs t
unfolding digits_at
has_digits i skip base count bs t h = none (count == 0) refl h
  where
    others : (refused : Bool) → 0 < count → cond refused (Err (no.BadNumber i))
        (Ok (number_token i skip base count bs)) ≡ Ok t → HasDigits i skip base count bs t
    others true some e = absurd (cc)
    others false some e = record { some = some; is = cc }

    none : (empty : Bool) → (count == 0) ≡ empty →
        cond (empty || (nat_lt (2 ^ 32 - 1) (number_of base (take count (drop skip bs)))
        || starts is_head (drop (skip + count) bs))) (Err (no.BadNumber i))
        (Ok (number_token i skip base count bs)) ≡ Ok t → HasDigits i skip base count bs t
    none true q e = absurd (cc)
    none false q e =
        others (nat_lt (2 ^ 32 - 1) (number_of base (take count (drop skip bs)))
        || starts is_head (drop (skip + count) bs)) (grind (arith, nat_tests, q)) e

-- a decimal number
found_decimal : (i : ℕ) (bs : List ℕ) (t : Token) → is_prefixed bs ≡ false →
    HasDigits i 0 10 (run is_digit bs) bs t → IsFound i bs t
found_decimal i bs t plain h =
    let size : (i + (0 + run is_digit bs)) - i ≡ run is_digit bs = omega arith in
    let some : 0 < length (take (run is_digit bs) bs) =
    rw length-take (omega (arith, h.some, run_within is_digit bs)) in
    subst (IsFound i bs) h.is (record {
      starts_at = refl;
      rises = omega (arith, h.some);
      inside = omega (arith, run_within is_digit bs);
      reads = rw (size, not_prefixed (run is_digit bs) bs plain) (record {
        some = some;
        digits_only =
            AllPass-from_list_all is_digit (take (run is_digit bs) bs) (run_passes is_digit bs);
        valued = refl;
      });
    })

-- a hexadecimal number
found_hex : (i a b : ℕ) (bs : List ℕ) (t : Token) → is_prefixed (a ∷ b ∷ bs) ≡ true →
    HasDigits i 2 16 (run is_hex bs) (a ∷ b ∷ bs) t → IsFound i (a ∷ b ∷ bs) t
found_hex i a b bs t prefixed h =
    let size : (i + (2 + run is_hex bs)) - i ≡ suc (suc (run is_hex bs)) = omega arith in
    let some : 0 < length (take (run is_hex bs) bs) =
    rw length-take (omega (arith, h.some, run_within is_hex bs)) in
    let digits : IsNumeral is_hex 16 (take (run is_hex bs) bs)
    (number_of 16 (take (run is_hex bs) bs)) = record {
      some = some;
      digits_only = AllPass-from_list_all is_hex (take (run is_hex bs) bs) (run_passes is_hex bs);
      valued = refl;
    } in
    subst (IsFound i (a ∷ b ∷ bs)) h.is (record {
      starts_at = refl;
      rises = omega arith;
      inside = omega (arith, run_within is_hex bs);
      reads = rw (size, prefixed) digits;
    })

found_number : (i : ℕ) (bs : List ℕ) (t : Token) → number_at i bs ≡ Ok t → IsFound i bs t
unfolding number_at
found_number i [] t h = found_decimal i [] t refl (has_digits i 0 10 (run is_digit []) [] t h)
found_number i (a ∷ []) t h =
    found_decimal i (a ∷ []) t refl (has_digits i 0 10 (run is_digit (a ∷ [])) (a ∷ []) t h)
found_number i (a ∷ b ∷ bs) t h = go (is_prefixed (a ∷ b ∷ bs)) refl h
  where
    go : (p : Bool) → is_prefixed (a ∷ b ∷ bs) ≡ p →
        cond p (digits_at i 2 16 (run is_hex bs) (a ∷ b ∷ bs))
        (digits_at i 0 10 (run is_digit (a ∷ b ∷ bs)) (a ∷ b ∷ bs)) ≡ Ok t →
        IsFound i (a ∷ b ∷ bs) t
    go true e h = found_hex i a b bs t e (has_digits i 2 16 (run is_hex bs) (a ∷ b ∷ bs) t h)
    go false e h =
        found_decimal i (a ∷ b ∷ bs) t e
        (has_digits i 0 10 (run is_digit (a ∷ b ∷ bs)) (a ∷ b ∷ bs) t h)

-- a token that is found at the head of some bytes
pub found : (i b : ℕ) (bs : List ℕ) (t : Token) → token_at i b bs ≡ Ok t → IsFound i (b ∷ bs) t
unfolding token_at
found i b bs t h = heads (is_head b) refl h
  where
    marks : (m : Bool) → is_mark b ≡ m → cond m (Ok (mark_at i b)) (Err (no.BadChar i)) ≡ Ok t →
        IsFound i (b ∷ bs) t
    marks true e h =
        let same : mark_at i b ≡ t = cc in subst (IsFound i (b ∷ bs)) same (found_mark i b bs e)
    marks false e h = absurd (cc)

    digits : (d : Bool) → is_digit b ≡ d → cond d (number_at i (b ∷ bs))
        (cond (is_mark b) (Ok (mark_at i b)) (Err (no.BadChar i))) ≡ Ok t → IsFound i (b ∷ bs) t
    digits true e h = found_number i (b ∷ bs) t h
    digits false e h = marks (is_mark b) refl h

    heads : (n : Bool) → is_head b ≡ n → cond n (Ok (name_at i (b ∷ bs)))
        (cond (is_digit b) (number_at i (b ∷ bs))
        (cond (is_mark b) (Ok (mark_at i b)) (Err (no.BadChar i)))) ≡ Ok t → IsFound i (b ∷ bs) t
    heads true e h =
        let same : name_at i (b ∷ bs) ≡ t = cc in
        subst (IsFound i (b ∷ bs)) same (found_name i b bs e)
    heads false e h = digits (is_digit b) refl h
