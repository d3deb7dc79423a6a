-- Numbers in words.
use Rattle.std.specs.Prelude.{ℕ, ◌+◌, ◌-◌, ◌*◌, ◌&&◌, nat_le, Bool, if◌then◌else◌}
use Rattle.std.specs.Prelude.{[], ◌∷◌, length, Option, Some, None, option_and_then}
use Rattle.fp_setup.specs.Checks.{largest_word}
use Rattle.fp_setup.specs.Vocabulary.{Text}
use Rattle.command_line.specs.Forms.{after_byte}

-- whether a byte is one of a range. The lexer of sources has its own: arguments are no source
abbrev pub is_between : ℕ → ℕ → ℕ → Bool
is_between first last b = nat_le first b && nat_le b last

-- a thread is one digit, 0 (48) to 7
abbrev pub thread_in : Text → Option ℕ
thread_in (d ∷ []) = if is_between 48 55 d then Some (d - 48) else None
thread_in _ = None

-- the decimal value of digits after others; None if a byte is no digit
abbrev pub decimal_after : ℕ → Text → Option ℕ
decimal_after value [] = Some value
decimal_after value (d ∷ ds) =
    if is_between 48 57 d then decimal_after (value * 10 + (d - 48)) ds else None

-- a hexadecimal digit: 0 (48) to 9, a (97) to f, A (65) to F
abbrev pub hexadecimal_digit : ℕ → Option ℕ
hexadecimal_digit b =
    if is_between 48 57 b then Some (b - 48)
    else (if is_between 97 102 b then Some (b - 97 + 10)
    else (if is_between 65 70 b then Some (b - 65 + 10) else None))

-- the hexadecimal value of digits after others; None if a byte is no digit
abbrev pub hexadecimal_after : ℕ → Text → Option ℕ
hexadecimal_after value [] = Some value
hexadecimal_after value (d ∷ ds) =
    option_and_then (λ x. hexadecimal_after (value * 16 + x) ds) (hexadecimal_digit d)

-- a reading of one to `most` digits
abbrev pub of_length : ℕ → Text → Option ℕ → Option ℕ
of_length most ds value = if nat_le 1 (length ds) && nat_le (length ds) most then value else None

-- one to ten decimal digits; one to eight hexadecimal digits
abbrev pub decimal_in : Text → Option ℕ
decimal_in ds = of_length 10 ds (decimal_after 0 ds)

abbrev pub hexadecimal_in : Text → Option ℕ
hexadecimal_in ds = of_length 8 ds (hexadecimal_after 0 ds)

abbrev pub within : ℕ → Option ℕ → Option ℕ
within most None = None
within most (Some n) = if nat_le n most then Some n else None

-- a number of one to ten decimal digits, at most `most`
unfoldable pub number_in : ℕ → Text → Option ℕ
number_in most ds = within most (decimal_in ds)

-- the text after `0x` (48, 120)
abbrev pub after_prefix : Text → Option Text
after_prefix word = option_and_then (after_byte 120) (after_byte 48 word)

abbrev pub address_value : Option Text → Text → Option ℕ
address_value None word = decimal_in word
address_value (Some ds) word = hexadecimal_in ds

-- an address: decimal, or hexadecimal after `0x`, below 2^32
unfoldable pub address_in : Text → Option ℕ
address_in word = within largest_word (address_value (after_prefix word) word)
