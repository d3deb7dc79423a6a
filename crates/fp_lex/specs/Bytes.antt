-- The kinds of bytes of a line, and numbers of digits.
use Rattle.std.specs.Prelude.{ℕ, ◌==◌, ◌&&◌, ◌||◌, ◌+◌, ◌-◌, ◌*◌, ◌^◌, nat_lt, nat_le, Bool, false}
use Rattle.std.specs.Prelude.{Option, Some, None, List, [], ◌∷◌, if◌then◌else◌, take_while, length}

-- from one code to another
abbrev pub is_between : ℕ → ℕ → ℕ → Bool
is_between low high b = nat_le low b && nat_le b high

-- `0` to `9`
abbrev pub is_digit : ℕ → Bool
is_digit b = is_between 48 57 b

-- a digit, or `A` to `F` of either case
abbrev pub is_hex : ℕ → Bool
is_hex b = is_digit b || (is_between 65 70 b || is_between 97 102 b)

-- the first byte of a name: a letter of either case, `_` or `.`
abbrev pub is_head : ℕ → Bool
is_head b = (is_between 65 90 b || is_between 97 122 b) || (b == 95 || b == 46)

-- a later byte of a name
abbrev pub is_rest : ℕ → Bool
is_rest b = is_head b || is_digit b

-- space and tab
abbrev pub is_blank : ℕ → Bool
is_blank b = b == 32 || b == 9

-- `,` `:` `(` `)` `+` `-`
abbrev pub is_mark : ℕ → Bool
is_mark b = (b == 44 || b == 58) || ((b == 40 || b == 41) || (b == 43 || b == 45))

-- the number of bytes at the head that pass a test
unfoldable pub run : (ℕ → Bool) → List ℕ → ℕ
run p bs = length (take_while p bs)

-- the first byte passes a test
abbrev pub starts : (ℕ → Bool) → List ℕ → Bool
starts p [] = false
starts p (b ∷ bs) = p b

-- the value of a decimal or hexadecimal digit
abbrev pub digit : ℕ → ℕ
digit b = if nat_le b 57 then b - 48 else if nat_le b 70 then b - 55 else b - 87

-- the number of digits that follow those of n
unfoldable pub number_from : ℕ → ℕ → List ℕ → ℕ
number_from base n [] = n
number_from base n (b ∷ bs) = number_from base (n * base + digit b) bs

-- the number of digits in a base, however many there are
unfoldable pub number_of : ℕ → List ℕ → ℕ
number_of base bs = number_from base 0 bs

-- a number that fits 32 bits
unfoldable pub fit : ℕ → Option ℕ
fit n = if nat_lt (2 ^ 32 - 1) n then None else Some n
