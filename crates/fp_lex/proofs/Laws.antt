-- The tokens of a line by their texts; their spans rise.
use Rattle.std.proofs.Common.{◌≡◌, ℕ, zero, suc, ◌<◌, ◌≤◌, ◌+◌, ◌-◌, ◌==◌, Bool, List, []}
use Rattle.std.proofs.Common.{◌∷◌, length, drop, true, false, Result, Ok, Err, refl, subst}
use Rattle.std.proofs.Common.{sym, ap, ◌∙◌, arith, drop-drop, length-drop, nat_lt, cond, All}
use Rattle.std.proofs.lemmas.Bool.Decides.{nat_tests}
use Rattle.fp_lex.specs.Bytes.{is_blank}
use Rattle.fp_lex.specs.Tokens.{next, counted, token_at, tokens_from, tokens_of}
use Rattle.fp_lex.specs.Texts.{IsTokenOf, AreRising}
use Rattle.fp_lex.proofs.Found.{IsFound, found}
use Rattle.fp_lex.specs.declared.token.Token.{Token}
use Rattle.fp_lex.specs.declared.token.LexNo.{LexNo}
use Rattle.fp_lex.specs.declared.token.LexNo.TheVariants as no

-- tokens of a line from a column on, after n others
pub record AreTokensOf (line : List ℕ) (from n : ℕ) (ts : List Token) : Type 0 where
  pub texts : All (IsTokenOf line) ts
  pub rising : AreRising from ts
  pub few : n ≤ 64 → n + length ts ≤ 64

all_none : (line : List ℕ) → All (IsTokenOf line) []
all_none line k d h = absurd (omega (arith, h))

all_more : (line : List ℕ) (t : Token) (ts : List Token) → IsTokenOf line t →
    All (IsTokenOf line) ts → All (IsTokenOf line) (t ∷ ts)
all_more line t ts first others zero d h = first
all_more line t ts first others (suc k) d h = others k d (omega (arith, h))

sooner : (from to : ℕ) (ts : List Token) → from ≤ to → AreRising to ts → AreRising from ts
sooner from to [] h r = tt
sooner from to (t ∷ ts) h r = (omega (arith, h, r.0), r.1)

none : (line : List ℕ) (from n : ℕ) → AreTokensOf line from n []
none line from n = record { texts = all_none line; rising = tt; few = λ h. omega (arith, h) }

-- the rest of the line after one more byte
left : (line : List ℕ) (i b : ℕ) (bs : List ℕ) → drop i line ≡ b ∷ bs → drop (i + 1) line ≡ bs
left line i b bs h = sym (drop-drop 1 i line) ∙ ap (drop 1) h

-- an index that has a byte is inside
placed : (line : List ℕ) (i b : ℕ) (bs : List ℕ) → drop i line ≡ b ∷ bs →
    i + length (b ∷ bs) ≡ length line
placed line i b bs h =
    let size : length line - i ≡ suc (length bs) = sym (length-drop i line) ∙ ap length h in
    omega (arith, size)

-- a token that is found in a line
in_line : (line : List ℕ) (i b : ℕ) (bs : List ℕ) (t : Token) → drop i line ≡ b ∷ bs →
    IsFound i (b ∷ bs) t → IsTokenOf line t
in_line line i b bs t h f = record {
  rises = omega (arith, f.starts_at, f.rises);
  inside = omega (arith, f.inside, placed line i b bs h);
  reads = rw (f.starts_at, h) f.reads;
}

-- the claim about the tokens in the rest of a line
abbrev Holds : List ℕ → List ℕ → Type 0
Holds line bs =
    (passed i n : ℕ) (ts : List Token) → drop i line ≡ bs → passed ≤ length bs →
    tokens_from passed i n bs ≡ Ok ts → AreTokensOf line (i + passed) n ts

-- a token and those after it
token_more : (line : List ℕ) (i n b : ℕ) (bs : List ℕ) (t : Token) (ts : List Token) →
    drop i line ≡ b ∷ bs → n < 64 → IsFound i (b ∷ bs) t →
    AreTokensOf line ((i + 1) + (t.end - (i + 1))) (n + 1) ts → AreTokensOf line (i + 0) n (t ∷ ts)
token_more line i n b bs t ts h few f more =
    let ends : (i + 1) + (t.end - (i + 1)) ≡ t.end = omega (arith, f.rises) in
    record {
      texts = all_more line t ts (in_line line i b bs t h f) more.texts;
      rising = (
        omega (arith, f.starts_at),
        sooner t.end ((i + 1) + (t.end - (i + 1))) ts (omega (arith, ends)) more.rising,
      );
      few = λ k. omega (arith, more.few (omega (arith, few)));
    }

-- where a token begins
token_step : (line : List ℕ) (i n b : ℕ) (bs : List ℕ) (ts : List Token) →
    Holds line bs → drop i line ≡ b ∷ bs → next (next (token_at i b bs) (counted n))
    (λ t. next (tokens_from (t.end - (i + 1)) (i + 1) (n + 1) bs) (λ ts. Ok (t ∷ ts))) ≡ Ok ts →
    AreTokensOf line (i + 0) n ts
token_step line i n b bs ts more h = by_token (token_at i b bs) refl
  where
    by_rest : (t : Token) → n < 64 → IsFound i (b ∷ bs) t → (r : Result (List Token) LexNo) →
        tokens_from (t.end - (i + 1)) (i + 1) (n + 1) bs ≡ r → next r (λ ts. Ok (t ∷ ts)) ≡ Ok ts →
        AreTokensOf line (i + 0) n ts
    by_rest t few f (Err e) q k = absurd (cc)
    by_rest t few f (Ok others) q k =
        let same : t ∷ others ≡ ts = cc in
        subst (AreTokensOf line (i + 0) n) same (token_more line i n b bs t others h few f (more
        (t.end - (i + 1)) (i + 1) (n + 1) others (left line i b bs h) (omega (arith, f.inside)) q))

    by_count : (t : Token) → IsFound i (b ∷ bs) t → (few : Bool) →
        nat_lt n 64 ≡ few → next (cond few (Ok t) (Err no.TooMany))
        (λ t. next (tokens_from (t.end - (i + 1)) (i + 1) (n + 1) bs) (λ ts. Ok (t ∷ ts))) ≡ Ok ts →
        AreTokensOf line (i + 0) n ts
    by_count t f true q k =
        by_rest t (grind (arith, nat_tests, q)) f
        (tokens_from (t.end - (i + 1)) (i + 1) (n + 1) bs) refl k
    by_count t f false q k = absurd (cc)

    by_token : (r : Result Token LexNo) → token_at i b bs ≡ r → next (next r (counted n))
        (λ t. next (tokens_from (t.end - (i + 1)) (i + 1) (n + 1) bs) (λ ts. Ok (t ∷ ts))) ≡ Ok ts →
        AreTokensOf line (i + 0) n ts
    by_token (Err e) q k = absurd (cc)
    by_token (Ok t) q k = by_count t (found i b bs t q) (nat_lt n 64) refl k

-- at a byte that belongs to no token before it
byte_step : (line : List ℕ) (i n b : ℕ) (bs : List ℕ) (ts : List Token) → Holds line bs →
    drop i line ≡ b ∷ bs → tokens_from 0 i n (b ∷ bs) ≡ Ok ts → AreTokensOf line (i + 0) n ts
unfolding tokens_from
byte_step line i n b bs ts more h = by_hash (b == 35)
  where
    by_blank : (blank : Bool) → cond blank (tokens_from 0 (i + 1) n bs)
        (next (next (token_at i b bs) (counted n))
        (λ t. next (tokens_from (t.end - (i + 1)) (i + 1) (n + 1) bs) (λ ts. Ok (t ∷ ts))))
        ≡ Ok ts → AreTokensOf line (i + 0) n ts
    by_blank true k =
        let rest = more 0 (i + 1) n ts (left line i b bs h) (omega arith) k in
        record {
          texts = rest.texts;
          rising = sooner (i + 0) ((i + 1) + 0) ts (omega arith) rest.rising;
          few = rest.few;
        }
    by_blank false k = token_step line i n b bs ts more h k

    by_hash : (hash : Bool) → cond hash (Ok [])
        (cond (is_blank b) (tokens_from 0 (i + 1) n bs) (next (next (token_at i b bs) (counted n))
        (λ t. next (tokens_from (t.end - (i + 1)) (i + 1) (n + 1) bs) (λ ts. Ok (t ∷ ts)))))
        ≡ Ok ts → AreTokensOf line (i + 0) n ts
    by_hash true k =
        let same : [] ≡ ts = cc in subst (AreTokensOf line (i + 0) n) same (none line (i + 0) n)
    by_hash false k = by_blank (is_blank b) k

from_any : (line bs : List ℕ) → Holds line bs
unfolding tokens_from
from_any line [] passed i n ts h k e =
    let same : [] ≡ ts = cc in
    subst (AreTokensOf line (i + passed) n) same (none line (i + passed) n)
from_any line (b ∷ bs) zero i n ts h k e = byte_step line i n b bs ts (from_any line bs) h e
from_any line (b ∷ bs) (suc passed) i n ts h k e =
    let same : (i + 1) + passed ≡ i + suc passed = omega arith in
    subst (λ from. AreTokensOf line from n ts) same
    (from_any line bs passed (i + 1) n ts (left line i b bs h) (omega (arith, k)) e)

-- The tokens of a line are those of their texts. They rise, and there are at most 64.
pub tokens_law : (line : List ℕ) (ts : List Token) → tokens_of line ≡ Ok ts →
    AreTokensOf line 0 0 ts
unfolding tokens_of
tokens_law line ts h = from_any line line 0 0 0 ts refl (omega arith) h
