-- Words of 32 bits as whole numbers below 2 ^ 32. Registers are words; instructions read them with
-- or without a sign (RISC-V unprivileged manual, "Programmers' Model for Base Integer ISA" and
-- "Integer Computational Instructions").
use Rattle.std.specs.Prelude.{ℕ, zero, suc, ◌+◌, ◌-◌, ◌*◌, ◌/◌, ◌%◌, ◌^◌, ℤ, pos}
use Rattle.std.specs.Prelude.{negsuc, ◌-ℤ◌, nat_lt, Bool, true, false, if◌then◌else◌}

-- the word read with its top bit as the sign (two's complement)
abbrev pub signed : ℕ → ℤ
signed a = if nat_lt a (2 ^ 31) then pos a else pos a -ℤ pos (2 ^ 32)

-- the word of a whole number, modulo 2 ^ 32
abbrev pub word : ℤ → ℕ
word (pos n) = n % 2 ^ 32
word (negsuc n) = 2 ^ 32 - 1 - n % 2 ^ 32

-- whether the first whole number is below the second
abbrev pub below : ℤ → ℤ → Bool
below (pos a) (pos b) = nat_lt a b
below (pos a) (negsuc b) = false
below (negsuc a) (pos b) = true
below (negsuc a) (negsuc b) = nat_lt b a

-- 1 for true, 0 for false
abbrev pub one_if : Bool → ℕ
one_if b = if b then 1 else 0

-- the bit at an index, 0 or 1
abbrev pub bit : ℕ → ℕ → ℕ
bit a index = a / 2 ^ index % 2

-- a function of two bits, for each of the lowest bits of two words: the sum of its values times
-- the powers of two
unfoldable pub bitwise : (ℕ → ℕ → ℕ) → ℕ → ℕ → ℕ → ℕ
bitwise f zero a b = 0
bitwise f (suc width) a b = bitwise f width a b + f (bit a width) (bit b width) * 2 ^ width

-- a quotient rounded down: the greatest whole number not above it
abbrev pub floor_div : ℤ → ℕ → ℤ
floor_div (pos a) d = pos (a / d)
floor_div (negsuc a) d = negsuc (a / d)
