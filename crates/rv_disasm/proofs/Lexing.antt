-- The tokens of a line of text tokens.
use Rattle.std.proofs.Common.{◌≡◌, ℕ, zero, suc, ◌<◌, ◌≤◌, ◌+◌, ◌-◌, ◌*◌, ◌/◌, ◌%◌}
use Rattle.std.proofs.Common.{◌^◌, ◌==◌, nat_lt, nat_le, Bool, true, false, ◌&&◌}
use Rattle.std.proofs.Common.{◌||◌, List, [], ◌∷◌, ◌++◌, length, take, drop, map}
use Rattle.std.proofs.Common.{Result, Ok, Err, refl, sym, ap, ◌∙◌, arith, append_assoc}
use Rattle.std.specs.Prelude.{flat_map, slice_range, decimal}
use Rattle.std.specs.List.{prefix_len, list_all}
use Rattle.std.proofs.Math.Seq.{take-append_seam, drop-append_seam}
use Rattle.std.proofs.lemmas.List.{length-append}
use Rattle.std.proofs.lemmas.Bool.Decides.{nat_tests}
use Rattle.std.proofs.lemmas.Fmt.{decimal_by_steps}
use Rattle.fp_lex.specs.Bytes.{is_digit, is_hex, is_head, is_rest, is_blank}
use Rattle.fp_lex.specs.Bytes.{run, starts, digit, number_from, number_of}
use Rattle.fp_lex.specs.Tokens.{next, is_prefixed, digits_at, number_at, name_at}
use Rattle.fp_lex.specs.Tokens.{mark_at, token_at, tokens_from, tokens_of}
use Rattle.fp_lex.specs.declared.token.Token.{Token}
use Rattle.fp_lex.specs.declared.token.Kind.TheVariants as kind
use Rattle.fp_lex.specs.declared.token.LexNo.{LexNo}
use Rattle.fp_asm.specs.Pieces.{Text, Piece, name, number, comma as comma_piece}
use Rattle.fp_asm.specs.Pieces.{opening as opening_piece, closing as closing_piece}
use Rattle.fp_asm.specs.Pieces.{minus as minus_piece, piece, pieces_or_fault, pieces_of}
use Rattle.trace_print.specs.Digits.{hex, hex_digit}
use Rattle.trace_print.proofs.Lengths.{length-hex}
use native.Mathlib.Numerals.{unary_clauses}
use Rattle.rv_disasm.specs.TextTokens.{TextToken, named, counted, digits, comma}
use Rattle.rv_disasm.specs.TextTokens.{opening, closing, minus, token_text, behind}

-- each byte passes a test
abbrev pub AllBytes : (ℕ → Bool) → Text → Type 0
AllBytes p [] = Unit {0}
AllBytes p (b ∷ bs) = (p b ≡ true) × AllBytes p bs

all_append : (p : ℕ → Bool) (xs ys : Text) → AllBytes p xs → AllBytes p ys → AllBytes p (xs ++ ys)
all_append p [] ys g h = h
all_append p (x ∷ xs) ys g h = (g.0, all_append p xs ys g.1 h)

one_more : (k b : ℕ) (bs : Text) → length (take (1 + k) (b ∷ bs)) ≡ suc (length (take k bs))
one_more k b bs = let e : 1 + k ≡ suc k = omega arith in rw e refl

run_over : (p : ℕ → Bool) (xs rest : Text) → AllBytes p xs → starts p rest ≡ false →
    run p (xs ++ rest) ≡ length xs
unfolding run
run_over p [] [] h e = refl
run_over p [] (b ∷ bs) h e = rw e refl
run_over p (x ∷ xs) rest h e =
    let more : run p (xs ++ rest) ≡ length xs = run_over p xs rest h.1 e in
    rw h.0 (one_more (prefix_len p (xs ++ rest)) x (xs ++ rest) ∙ ap suc more)

-- a byte that passes a test differs from one that doesn't
not_at : (p : ℕ → Bool) (k b : ℕ) → p k ≡ false → p b ≡ true → (b == k) ≡ false
not_at p k b fails passes = by_test (b == k) refl
  where
    by_test : (c : Bool) → (b == k) ≡ c → (b == k) ≡ false
    by_test true e =
        let same : b ≡ k = grind (arith, nat_tests) in
        absurd (let h : true ≡ false = sym passes ∙ (ap p same ∙ fails) in cc)
    by_test false e = e

-- a text that fails a test fails a narrower one
fails_too : (p q : ℕ → Bool) (rest : Text) → ((b : ℕ) → p b ≡ false → q b ≡ false) →
    starts p rest ≡ false → starts q rest ≡ false
fails_too p q [] narrow h = refl
fails_too p q (b ∷ bs) narrow h = narrow b h

or_false : (a b : Bool) → (a || b) ≡ false → (a ≡ false) × (b ≡ false)
or_false true b h = absurd (cc)
or_false false b h = (refl, h)

not_head : (b : ℕ) → is_rest b ≡ false → is_head b ≡ false
not_head b h = (or_false (is_head b) (is_digit b) h).0

not_digit : (b : ℕ) → is_rest b ≡ false → is_digit b ≡ false
not_digit b h = (or_false (is_head b) (is_digit b) h).1

not_hex : (b : ℕ) → is_rest b ≡ false → is_hex b ≡ false
not_hex b h = grind (arith, nat_tests)

not_x : (b : ℕ) → is_rest b ≡ false → (b == 120) ≡ false
not_x b h = grind (arith, nat_tests)

skipped : (xs rest : Text) (i n : ℕ) →
    tokens_from (length xs) i n (xs ++ rest) ≡ tokens_from 0 (i + length xs) n rest
unfolding tokens_from
skipped [] rest i n = let same : i ≡ i + 0 = omega arith in ap (λ k. tokens_from 0 k n rest) same
skipped (x ∷ xs) rest i n =
    let same : (i + 1) + length xs ≡ i + suc (length xs) = omega arith in
    skipped xs rest (i + 1) n ∙ ap (λ k. tokens_from 0 k n rest) same

one_token : (i n b : ℕ) (bs rest : Text) (t : Token) → (b == 35) ≡ false → is_blank b ≡ false →
    token_at i b (bs ++ rest) ≡ Ok t → t.end ≡ i + suc (length bs) → n < 64 →
    tokens_from 0 i n (b ∷ (bs ++ rest))
    ≡ next (tokens_from 0 (i + suc (length bs)) (n + 1) rest) (λ ts. Ok (t ∷ ts))
unfolding tokens_from
one_token i n b bs rest t hash blank here ends few =
    let small : nat_lt n 64 ≡ true = grind (arith, nat_tests) in
    let size : t.end - (i + 1) ≡ length bs = omega arith in
    let location : (i + 1) + length bs ≡ i + suc (length bs) = omega arith in
    rw (hash, blank, here, small, size, skipped bs rest (i + 1) (n + 1), location) refl

piece_more : (line : Text) (t : Token) (p : Piece) (r : Result (List Token) LexNo)
    (ps : List Piece) → piece line t ≡ p → pieces_or_fault line r ≡ Ok ps →
    pieces_or_fault line (next r (λ ts. Ok (t ∷ ts))) ≡ Ok (p ∷ ps)
piece_more line t p (Ok ts) ps e h = let more : map (piece line) ts ≡ ps = cc in rw (e, more) refl
piece_more line t p (Err fault) ps e h = absurd (cc)

-- the text of a token of a line
here : (pre t rest : Text) (size : ℕ) → size ≡ length t →
    slice_range (pre ++ (t ++ rest)) (length pre) (length pre + size) ≡ t
here pre t rest size e =
    let room : (length pre + size) - length pre ≡ length t = omega arith in
    rw (drop-append_seam pre (t ++ rest), room) (take-append_seam t rest)

digits_ok : (i skip base : ℕ) (bs : Text) (count v : ℕ) (rest : Text) →
    0 < count → number_of base (take count (drop skip bs)) ≡ v → v < 2 ^ 32 →
    drop (skip + count) bs ≡ rest → starts is_head rest ≡ false → digits_at i skip base count bs
    ≡ Ok (record { kind = kind.Number; start = i; end = i + (skip + count); value = v })
unfolding digits_at
digits_ok i skip base bs count v rest some e small after ends =
    let a : (count == 0) ≡ false = grind (arith, nat_tests) in
    let b : nat_lt (2 ^ 32 - 1) v ≡ false = grind (arith, nat_tests) in
    rw (a, e, b, after, ends) refl

-- A token of the text as the assembler reads it, with its conditions: names are valid names, and
-- numbers fit in 32 bits.
abbrev pub part_piece : TextToken → Piece
part_piece (named x) = name x
part_piece (counted n) = number n
part_piece (digits width n) = number n
part_piece comma = comma_piece
part_piece opening = opening_piece
part_piece closing = closing_piece
part_piece minus = minus_piece

abbrev pub is_name : Text → Bool
is_name [] = false
is_name (b ∷ bs) = is_head b && list_all is_rest bs

abbrev pub IsSound : TextToken → Type 0
IsSound (named x) = is_name x ≡ true
IsSound (counted n) = n < 2 ^ 32
IsSound (digits width n) = (0 < width) × (n < 16 ^ width) × (n < 2 ^ 32)
IsSound _ = Unit {0}

-- the text after a name or a number doesn't continue it
abbrev pub IsApart : TextToken → Text → Type 0
IsApart (named x) rest = starts is_rest rest ≡ false
IsApart (counted n) rest = starts is_rest rest ≡ false
IsApart (digits width n) rest = starts is_rest rest ≡ false
IsApart _ rest = Unit {0}

-- the tokens from one on, if those after it are known
abbrev Reads : TextToken → Type 0
Reads p =
    (line pre rest : Text) (n : ℕ) (ps : List Piece) →
    line ≡ pre ++ (token_text p ++ rest) → IsApart p rest → n < 64 →
    pieces_or_fault line (tokens_from 0 (length pre + length (token_text p)) (n + 1) rest) ≡ Ok ps
    → pieces_or_fault line (tokens_from 0 (length pre) n (token_text p ++ rest))
    ≡ Ok (part_piece p ∷ ps)

pub and_true : (a b : Bool) → (a && b) ≡ true → (a ≡ true) × (b ≡ true)
and_true true b h = (refl, h)
and_true false b h = absurd (cc)

all_listed : (p : ℕ → Bool) (bs : Text) → list_all p bs ≡ true → AllBytes p bs
all_listed p [] h = tt
all_listed p (b ∷ bs) h =
    let parts = and_true (p b) (list_all p bs) h in (parts.0, all_listed p bs parts.1)

reads_name : (x : Text) → is_name x ≡ true → Reads (named x)
unfolding token_at piece
reads_name [] h line pre rest n ps e apart few more = absurd (cc)
reads_name (b ∷ bs) h line pre rest n ps e apart few more =
    let parts = and_true (is_head b) (list_all is_rest bs) h in
    let first : is_rest b ≡ true = rw parts.0 refl in
    let size : run is_rest (b ∷ (bs ++ rest)) ≡ suc (length bs) =
    run_over is_rest (b ∷ bs) rest (first, all_listed is_rest bs parts.1) apart in
    let hash : (b == 35) ≡ false = not_at is_head 35 b refl parts.0 in
    let space : (b == 32) ≡ false = not_at is_head 32 b refl parts.0 in
    let tab : (b == 9) ≡ false = not_at is_head 9 b refl parts.0 in
    let blank : is_blank b ≡ false = rw (space, tab) refl in
    let t : Token = name_at (length pre) (b ∷ (bs ++ rest)) in
    let at : token_at (length pre) b (bs ++ rest) ≡ Ok t = rw parts.0 refl in
    let ends : t.end ≡ length pre + suc (length bs) = ap (λ k. length pre + k) size in
    let own : piece line t ≡ name (b ∷ bs) =
    rw e (ap name (here pre (b ∷ bs) rest (run is_rest (b ∷ (bs ++ rest))) size)) in
    rw (one_token (length pre) n b bs rest t hash blank at ends few)
    (piece_more line t (name (b ∷ bs)) _ ps own more)

digit_rest : (b : ℕ) → is_digit b ≡ true → is_head b ≡ false
digit_rest b h = grind (arith, nat_tests)

-- a number whose second byte is no `x` doesn't begin with `0x`
not_prefixed : (d : ℕ) (bs : Text) → starts (λ b. b == 120) bs ≡ false →
    is_prefixed (d ∷ bs) ≡ false
not_prefixed d [] h = refl
not_prefixed d (b ∷ bs) h = by_test (d == 48)
  where
    by_test : (c : Bool) → (c && (b == 120)) ≡ false
    by_test true = h
    by_test false = refl

no_x : (ds rest : Text) → AllBytes is_digit ds → starts is_rest rest ≡ false →
    starts (λ b. b == 120) (ds ++ rest) ≡ false
no_x [] rest h e = fails_too is_rest (λ b. b == 120) rest not_x e
no_x (d ∷ ds) rest h e = not_at is_digit 120 d refl h.0

-- digits of a number that fits in 32 bits
record IsDecimal (n : ℕ) (ds : Text) : Type 0 where
  digits_only : AllBytes is_digit ds
  some : 0 < length ds
  valued : number_of 10 ds ≡ n

number_more : (base n : ℕ) (ds : Text) (d : ℕ) →
    number_from base n (ds ++ d ∷ []) ≡ number_from base n ds * base + digit d
unfolding number_from
number_more base n [] d = refl
number_more base n (x ∷ ds) d = number_more base (n * base + digit x) ds d

glyph : (k : ℕ) → k < 10 → (is_digit (48 + k) ≡ true) × (digit (48 + k) ≡ k)
glyph k h =
    let low : nat_le 48 (48 + k) ≡ true = grind (arith, nat_tests) in
    let high : nat_le (48 + k) 57 ≡ true = grind (arith, nat_tests) in
    (rw (low, high) refl, rw high (omega arith))

decimal_digits : (n : ℕ) → n < 2 ^ 64 → IsDecimal n (decimal n)
unfolding number_of number_from
decimal_digits n h = decimal_by_steps IsDecimal one more n h
  where
    one : (n : ℕ) → n < 10 → IsDecimal n ((48 + n) ∷ [])
    one n h =
        let g = glyph n h in
        let none : 0 + n ≡ n = omega arith in
        record { digits_only = (g.0, tt); some = omega arith; valued = rw g.1 none }

    more : (n : ℕ) (ds : Text) → 10 ≤ n → IsDecimal (n / 10) ds →
        IsDecimal n (ds ++ ((48 + n % 10) ∷ []))
    more n ds h d =
        let g = glyph (n % 10) (omega arith) in
        let whole : (n / 10) * 10 + n % 10 ≡ n = omega arith in
        record {
          digits_only = all_append is_digit ds ((48 + n % 10) ∷ []) d.digits_only (g.0, tt);
          some = omega (arith, length-append ds ((48 + n % 10) ∷ []));
          valued = number_more 10 0 ds (48 + n % 10) ∙ rw (d.valued, g.1) whole;
        }

reads_digits : (n : ℕ) (ds : Text) → n < 2 ^ 32 → IsDecimal n ds → (line pre rest : Text)
    (k : ℕ) (ps : List Piece) → line ≡ pre ++ (ds ++ rest) → starts is_rest rest ≡ false →
    k < 64 → pieces_or_fault line (tokens_from 0 (length pre + length ds) (k + 1) rest) ≡ Ok ps
    → pieces_or_fault line (tokens_from 0 (length pre) k (ds ++ rest)) ≡ Ok (number n ∷ ps)
unfolding token_at number_at piece
reads_digits n [] small d line pre rest k ps e apart few more = absurd (omega (arith, d.some))
reads_digits n (b ∷ bs) small d line pre rest k ps e apart few more =
    let own : is_digit b ≡ true = d.digits_only.0 in
    let head : is_head b ≡ false = digit_rest b own in
    let plain : is_prefixed (b ∷ (bs ++ rest)) ≡ false =
    not_prefixed b (bs ++ rest) (no_x bs rest d.digits_only.1 apart) in
    let size : run is_digit (b ∷ (bs ++ rest)) ≡ suc (length bs) = run_over is_digit
    (b ∷ bs) rest d.digits_only (fails_too is_rest is_digit rest not_digit apart) in
    let hash : (b == 35) ≡ false = not_at is_digit 35 b refl own in
    let space : (b == 32) ≡ false = not_at is_digit 32 b refl own in
    let tab : (b == 9) ≡ false = not_at is_digit 9 b refl own in
    let blank : is_blank b ≡ false = rw (space, tab) refl in
    let value : number_of 10 (take (suc (length bs)) (b ∷ (bs ++ rest))) ≡ n =
    ap (number_of 10) (take-append_seam (b ∷ bs) rest) ∙ d.valued in
    let after : drop (0 + suc (length bs)) (b ∷ (bs ++ rest)) ≡ rest =
    let none : 0 + suc (length bs) ≡ suc (length bs) = omega arith in
    rw none (drop-append_seam (b ∷ bs) rest) in
    let t : Token = record {
      kind = kind.Number;
      start = length pre;
      end = length pre + (0 + suc (length bs));
      value = n;
    } in
    let made : digits_at (length pre) 0 10 (suc (length bs)) (b ∷ (bs ++ rest)) ≡ Ok t =
    digits_ok (length pre) 0 10 (b ∷ (bs ++ rest)) (suc (length bs)) n rest
    (omega arith) value small after (fails_too is_rest is_head rest not_head apart) in
    let at : token_at (length pre) b (bs ++ rest) ≡ Ok t = rw (head, own, plain, size) made in
    rw (one_token (length pre) k b bs rest t hash blank at (omega arith) few)
    (piece_more line t (number n) _ ps refl more)

reads_decimal : (n : ℕ) → n < 2 ^ 32 → Reads (counted n)
reads_decimal n h line pre rest k ps e apart few more =
    reads_digits n (decimal n) h
    (decimal_digits n (omega arith)) line pre rest k ps e apart few more

hex_glyph : (k : ℕ) → k < 16 → (is_hex (hex_digit k) ≡ true) × (digit (hex_digit k) ≡ k)
hex_glyph k h = by_test (nat_lt k 10) refl
  where
    by_test : (c : Bool) → nat_lt k 10 ≡ c →
        (is_hex (hex_digit k) ≡ true) × (digit (hex_digit k) ≡ k)
    by_test true e =
        let small : k < 10 = grind (arith, nat_tests) in
        let g = glyph k small in
        rw e (rw g.0 refl, g.1)
    by_test false e =
        let large : 10 ≤ k = grind (arith, nat_tests) in
        let a : nat_le 97 (87 + k) ≡ true = grind (arith, nat_tests) in
        let b : nat_le (87 + k) 102 ≡ true = grind (arith, nat_tests) in
        let c : nat_le (87 + k) 57 ≡ false = grind (arith, nat_tests) in
        let d : nat_le (87 + k) 70 ≡ false = grind (arith, nat_tests) in
        let x : is_hex (87 + k) ≡ true = grind (arith, nat_tests) in
        rw e (x, rw (c, d) (omega arith))

-- hexadecimal digits with the value n
record IsHexadecimal (width n : ℕ) (hs : Text) : Type 0 where
  digits_only : AllBytes is_hex hs
  valued : number_of 16 hs ≡ n

hex_digits : (width n : ℕ) → n < 16 ^ width → IsHexadecimal width n (hex width n)
unfolding hex number_of number_from
hex_digits zero n h =
    let h1 = simp unary_clauses at h in record { digits_only = tt; valued = omega (arith, h1) }
hex_digits (suc width) n h =
    let power : 16 ^ suc width ≡ 16 ^ width * 16 = simp unary_clauses (omega arith) in
    let small : n / 16 < 16 ^ width = omega (arith, power) in
    let d = hex_digits width (n / 16) small in
    let g = hex_glyph (n % 16) (omega arith) in
    let whole : (n / 16) * 16 + n % 16 ≡ n = omega arith in
    record {
      digits_only =
          all_append is_hex (hex width (n / 16)) (hex_digit (n % 16) ∷ []) d.digits_only (g.0, tt);
      valued =
          number_more 16 0 (hex width (n / 16)) (hex_digit (n % 16)) ∙ rw (d.valued, g.1) whole;
    }

reads_hex : (n : ℕ) (hs : Text) → 0 < length hs → n < 2 ^ 32 → AllBytes is_hex hs →
    number_of 16 hs ≡ n → (line pre rest : Text) (k : ℕ) (ps : List Piece) →
    line ≡ pre ++ ((48 ∷ 120 ∷ hs) ++ rest) → starts is_rest rest ≡ false → k < 64
    →
    pieces_or_fault line (tokens_from 0 (length pre + length (48 ∷ 120 ∷ hs)) (k + 1) rest) ≡ Ok ps
    → pieces_or_fault line (tokens_from 0 (length pre) k ((48 ∷ 120 ∷ hs) ++ rest))
    ≡ Ok (number n ∷ ps)
unfolding token_at number_at piece
reads_hex n hs some small only valued line pre rest k ps e apart few more =
    let bs : Text = 48 ∷ 120 ∷ (hs ++ rest) in
    let size : run is_hex (hs ++ rest) ≡ length hs =
    run_over is_hex hs rest only (fails_too is_rest is_hex rest not_hex apart) in
    let value : number_of 16 (take (length hs) (hs ++ rest)) ≡ n =
    ap (number_of 16) (take-append_seam hs rest) ∙ valued in
    let both : 2 + length hs ≡ suc (suc (length hs)) = omega arith in
    let after : drop (2 + length hs) (48 ∷ 120 ∷ (hs ++ rest)) ≡ rest =
    rw both (drop-append_seam hs rest) in
    let t : Token = record {
      kind = kind.Number;
      start = length pre;
      end = length pre + (2 + length hs);
      value = n;
    } in
    let made : digits_at (length pre) 2 16 (length hs) (48 ∷ 120 ∷ (hs ++ rest)) ≡ Ok t =
    digits_ok (length pre) 2 16 (48 ∷ 120 ∷ (hs ++ rest))
    (length hs) n rest some value small after (fails_too is_rest is_head rest not_head apart) in
    let at : token_at (length pre) 48 ((120 ∷ hs) ++ rest) ≡ Ok t = rw size made in
    rw (one_token (length pre) k 48 (120 ∷ hs) rest t refl refl at (omega arith) few)
    (piece_more line t (number n) _ ps refl more)

reads_hexadecimal : (width n : ℕ) → (0 < width) × (n < 16 ^ width) × (n < 2 ^ 32) →
    Reads (digits width n)
reads_hexadecimal width n h line pre rest k ps e apart few more =
    let d = hex_digits width n h.1 in
    let some : 0 < length (hex width n) = rw (length-hex width n) h.0 in
    reads_hex n (hex width n) some h.2 d.digits_only d.valued line pre rest k ps e apart few more

reads_comma : Reads comma
unfolding token_at piece tokens_from
reads_comma line pre rest k ps e apart few more =
    let t : Token = mark_at (length pre) 44 in
    let location : (length pre + 1) + 1 ≡ length pre + 2 = omega arith in
    rw (one_token (length pre) k 44 [] (32 ∷ rest) t refl refl refl refl few)
    (piece_more line t comma_piece _ ps refl (rw location more))

reads_opening : Reads opening
unfolding token_at piece
reads_opening line pre rest k ps e apart few more =
    let t : Token = mark_at (length pre) 40 in
    rw (one_token (length pre) k 40 [] rest t refl refl refl refl few)
    (piece_more line t opening_piece _ ps refl more)

reads_closing : Reads closing
unfolding token_at piece
reads_closing line pre rest k ps e apart few more =
    let t : Token = mark_at (length pre) 41 in
    rw (one_token (length pre) k 41 [] rest t refl refl refl refl few)
    (piece_more line t closing_piece _ ps refl more)

reads_minus : Reads minus
unfolding token_at piece
reads_minus line pre rest k ps e apart few more =
    let t : Token = mark_at (length pre) 45 in
    rw (one_token (length pre) k 45 [] rest t refl refl refl refl few)
    (piece_more line t minus_piece _ ps refl more)

reads : (p : TextToken) → IsSound p → Reads p
reads (named x) h = reads_name x h
reads (counted n) h = reads_decimal n h
reads (digits width n) h = reads_hexadecimal width n h
reads comma h = reads_comma
reads opening h = reads_opening
reads closing h = reads_closing
reads minus h = reads_minus

-- tokens that may follow each other
abbrev pub AreSound : List TextToken → Type 0
AreSound [] = Unit {0}
AreSound (p ∷ ps) = IsSound p × IsApart p (flat_map token_text ps) × AreSound ps

reads_parts : (parts : List TextToken) → AreSound parts → (line pre : Text) (n : ℕ) →
    line ≡ pre ++ flat_map token_text parts → n + length parts ≤ 64 →
    pieces_or_fault line (tokens_from 0 (length pre) n (flat_map token_text parts))
    ≡ Ok (map part_piece parts)
unfolding tokens_from
reads_parts [] h line pre n e few = refl
reads_parts (p ∷ parts) h line pre n e few =
    let more = reads_parts parts h.2 line (pre ++ token_text p) (n + 1)
    (e ∙ sym (append_assoc pre (token_text p) (flat_map token_text parts))) (omega arith) in
    let rest = rw (length-append pre (token_text p)) at more in
    reads p h.0 line pre (flat_map token_text parts) n (map part_piece parts) e h.1
    (omega arith) rest

-- the pieces of a mnemonic with its operands
pub line_pieces : (m : Text) (parts : List TextToken) → is_name m ≡ true → AreSound parts →
    length parts < 64 → pieces_of (m ++ behind parts) ≡ Ok (name m ∷ map part_piece parts)
unfolding pieces_of tokens_of tokens_from
line_pieces m [] h g few = reads_name m h (m ++ []) [] [] 0 [] refl refl (omega arith) refl
line_pieces m (p ∷ parts) h g few =
    let text : Text = flat_map token_text (p ∷ parts) in
    let apart : m ++ (32 ∷ text) ≡ (m ++ 32 ∷ []) ++ text = sym (append_assoc m (32 ∷ []) text) in
    let more = reads_parts (p ∷ parts) g (m ++ (32 ∷ text)) (m ++ 32 ∷ []) 1 apart (omega arith) in
    let size : length (m ++ 32 ∷ []) ≡ (0 + length m) + 1 = simp length-append (omega arith) in
    let rest = rw size at more in
    reads_name m h (m ++ (32 ∷ text)) [] (32 ∷ text) 0 (map part_piece (p ∷ parts)) refl refl
    (omega arith) rest
