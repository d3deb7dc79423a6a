-- The tokens from an index of a line on.
use Rattle.std.proofs.Common.{◌≡◌, ℕ, zero, suc, ◌<◌, ◌≤◌, ◌+◌, ◌-◌, ◌∙◌, List}
use Rattle.std.proofs.Common.{[], ◌∷◌, ◌++◌, length, drop, get_or, true, false}
use Rattle.std.proofs.Common.{Result, Ok, Err, refl, sym, ap, arith, append_assoc}
use Rattle.std.proofs.Common.{append-nil, ◌≢◌, length-append, add-one, drop-drop}
use Rattle.std.proofs.Math.Seq.{drop-cons}
use Rattle.std.proofs.Math.ListN.{drop_of_length-le}
use Rattle.std.proofs.lemmas.Bool.{ne_eqb}
use Rattle.fp_lex.specs.Bytes.{is_blank}
use Rattle.fp_lex.specs.Tokens.{next, token_in, tokens_from}
use Rattle.fp_lex.specs.declared.token.Token.{Token}
use Rattle.fp_lex.specs.declared.token.LexNo.{LexNo}

-- the tokens of the list, followed by the tokens from byte i on
pub left : List ℕ → List Token → ℕ → Result (List Token) LexNo
left line list i = next (tokens_from 0 i (length list) (drop i line)) (λ ts. Ok (list ++ ts))

-- the bytes that are passed
pub tokens_pass : (k i n : ℕ) (bs : List ℕ) →
    tokens_from k i n bs ≡ tokens_from 0 (i + k) n (drop k bs)
unfolding tokens_from
tokens_pass zero i n bs = ap (λ j. tokens_from 0 j n bs) (omega arith)
tokens_pass (suc k) i n [] = refl
tokens_pass (suc k) i n (b ∷ bs) =
    tokens_pass k (i + 1) n bs ∙ ap (λ j. tokens_from 0 j n (drop k bs)) (omega arith)

pub cons_at : (l : List ℕ) (j d : ℕ) → j < length l → drop j l ≡ get_or l j d ∷ drop (j + 1) l
cons_at l j d h = rw add-one (drop-cons l j d h)

next_more : (r : Result (List Token) LexNo) (list : List Token) (t : Token) →
    next (next r (λ ts. Ok (t ∷ ts))) (λ ts. Ok (list ++ ts))
    ≡ next r (λ ts. Ok ((list ++ t ∷ []) ++ ts))
next_more (Ok ts) list t = ap Ok (sym (append_assoc list (t ∷ []) ts))
next_more (Err e) list t = refl

-- past the token that ends at `stop`
tokens_past : (line : List ℕ) (i stop n : ℕ) → i < stop →
    tokens_from (stop - (i + 1)) (i + 1) n (drop (i + 1) line)
    ≡ tokens_from 0 stop n (drop stop line)
tokens_past line i stop n g =
    let same : (i + 1) + (stop - (i + 1)) ≡ stop = omega (arith, g) in
    tokens_pass (stop - (i + 1)) (i + 1) n (drop (i + 1) line) ∙ rw (drop-drop, same) refl

pub tokens_here : (line : List ℕ) (i n d : ℕ) → i < length line →
    tokens_from 0 i n (drop i line) ≡ tokens_from 0 i n (get_or line i d ∷ drop (i + 1) line)
tokens_here line i n d h = ap (tokens_from 0 i n) (cons_at line i d h)

pub left_start : (line : List ℕ) → left line [] 0 ≡ tokens_from 0 0 0 line
unfolding left
left_start line = go (tokens_from 0 0 0 line)
  where
    go : (r : Result (List Token) LexNo) → next r (λ ts. Ok ([] ++ ts)) ≡ r
    go (Ok ts) = refl
    go (Err e) = refl

module _ (line : List ℕ) (list : List Token) (i : ℕ) where
  pub left_end : length line ≤ i → left line list i ≡ Ok list
  unfolding left tokens_from
  left_end h = rw (drop_of_length-le line h, append-nil) refl

  pub left_hash : i < length line → get_or line i 0 ≡ 35 → left line list i ≡ Ok list
  unfolding left tokens_from
  left_hash h e = rw (tokens_here line i (length list) 0 h, e, append-nil) refl

  pub left_blank : i < length line → get_or line i 0 ≢ 35 → is_blank (get_or line i 0) ≡ true →
      left line list i ≡ left line list (i + 1)
  unfolding left tokens_from
  left_blank h n e =
      rw (tokens_here line i (length list) 0 h, ne_eqb (get_or line i 0) 35 n, e) refl

  pub left_fault : (x : LexNo) → i < length line → get_or line i 0 ≢ 35 →
      is_blank (get_or line i 0) ≡ false → token_in line i (length list) ≡ Err x →
      left line list i ≡ Err x
  unfolding left tokens_from token_in
  left_fault x h n e f =
      rw (tokens_here line i (length list) 0 h, ne_eqb (get_or line i 0) 35 n, e, f) refl

  pub left_token : (t : Token) → i < length line → get_or line i 0 ≢ 35 →
      is_blank (get_or line i 0) ≡ false → token_in line i (length list) ≡ Ok t → i < t.end →
      left line list i ≡ left line (list ++ t ∷ []) t.end
  unfolding left tokens_from token_in
  left_token t h n e f g =
      rw (tokens_here line i (length list) 0 h, ne_eqb (get_or line i 0) 35 n, e, f) (rw (
        tokens_past line i t.end (length list + 1) g,
        next_more (tokens_from 0 t.end (length list + 1) (drop t.end line)) list t,
        length-append,
      ) refl)
