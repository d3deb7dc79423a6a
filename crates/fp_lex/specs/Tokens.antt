-- The tokens of a line, or its leftmost fault.
use Rattle.std.specs.Prelude.{◌≡◌, ℕ, zero, suc, ◌==◌, ◌+◌, ◌-◌, ◌^◌, ◌&&◌, ◌||◌, Bool, false, List}
use Rattle.std.specs.Prelude.{[], ◌∷◌, Result, Ok, Err, if◌then◌else◌, nat_lt, take, drop, get_or}
use Rattle.fp_lex.specs.Bytes.{is_digit, is_hex, is_head, is_rest}
use Rattle.fp_lex.specs.Bytes.{is_blank, is_mark, run, starts, number_of}
use Rattle.fp_lex.specs.declared.token.Token.{Token}
use Rattle.fp_lex.specs.declared.token.Kind.TheVariants.{Name, Number, Mark}
use Rattle.fp_lex.specs.declared.token.LexNo.{LexNo}
use Rattle.fp_lex.specs.declared.token.LexNo.TheVariants as no

-- the next result, if there was no fault
abbrev pub next : {A B : Type 0} → Result A LexNo → (A → Result B LexNo) → Result B LexNo
next (Ok x) f = f x
next (Err e) f = Err e

-- the bytes begin with `0x`
abbrev pub is_prefixed : List ℕ → Bool
is_prefixed (a ∷ b ∷ bs) = a == 48 && b == 120
is_prefixed _ = false

-- A number at column i with `count` digits after `skip` bytes. It is refused with no digit, past 32
-- bits, and if the head of a name follows directly.
unfoldable pub digits_at : ℕ → ℕ → ℕ → ℕ → List ℕ → Result Token LexNo
digits_at i skip base count bs =
    let value = number_of base (take count (drop skip bs)) in
    if count == 0 || (nat_lt (2 ^ 32 - 1) value || starts is_head (drop (skip + count) bs))
    then Err (no.BadNumber i)
    else Ok (record { kind = Number; start = i; end = i + (skip + count); value = value })

-- a number at column i: hexadecimal after `0x`, else decimal
unfoldable pub number_at : ℕ → List ℕ → Result Token LexNo
number_at i bs =
    if is_prefixed bs then digits_at i 2 16 (run is_hex (drop 2 bs)) bs
    else digits_at i 0 10 (run is_digit bs) bs

-- the name that begins at a column
abbrev pub name_at : ℕ → List ℕ → Token
name_at i bs = record { kind = Name; start = i; end = i + run is_rest bs; value = 0 }

-- the mark at a column
abbrev pub mark_at : ℕ → ℕ → Token
mark_at i b = record { kind = Mark; start = i; end = i + 1; value = b }

-- the token at column i that begins with the byte b
unfoldable pub token_at : ℕ → ℕ → List ℕ → Result Token LexNo
token_at i b bs =
    if is_head b then Ok (name_at i (b ∷ bs))
    else if is_digit b then number_at i (b ∷ bs)
    else if is_mark b then Ok (mark_at i b)
    else Err (no.BadChar i)

-- the token, if fewer than 64 are before it
abbrev pub counted : ℕ → Token → Result Token LexNo
counted n t = if nat_lt n 64 then Ok t else Err no.TooMany

-- the token at an index of the line after n others
unfoldable pub token_in : List ℕ → ℕ → ℕ → Result Token LexNo
token_in line i n = next (token_at i (get_or line i 0) (drop (i + 1) line)) (counted n)

-- The tokens from column i on, after n others. The first `passed` bytes belong to the last of
-- those. `#` ends the line.
unfoldable pub tokens_from : ℕ → ℕ → ℕ → List ℕ → Result (List Token) LexNo
tokens_from passed i n [] = Ok []
tokens_from (suc passed) i n (b ∷ bs) = tokens_from passed (i + 1) n bs
tokens_from zero i n (b ∷ bs) =
    if b == 35 then Ok []
    else if is_blank b then tokens_from 0 (i + 1) n bs
    else next (next (token_at i b bs) (counted n))
    (λ t. next (tokens_from (t.end - (i + 1)) (i + 1) (n + 1) bs) (λ ts. Ok (t ∷ ts)))

-- The tokens of a line. The result is never out of memory.
unfoldable pub tokens_of : List ℕ → Result (List Token) LexNo
tokens_of line = tokens_from 0 0 0 line

-- a refusal for another cause than memory is the line's fault
abbrev pub IsFaultOf : {A : Type 0} → Result A LexNo → LexNo → Type 0
IsFaultOf defined no.NoMemory = Unit {0}
IsFaultOf defined e = defined ≡ Err e
