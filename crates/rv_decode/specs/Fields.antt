-- Fields of a 32-bit instruction word, as quotients and remainders (RISC-V unprivileged manual,
-- "Base Instruction Formats" and "Immediate Encoding Variants").
use Rattle.std.specs.Prelude.{ℕ, ◌-◌, ◌+◌, ◌*◌, ◌/◌, ◌%◌, ◌^◌, ℤ, pos, ◌-ℤ◌, nat_lt, if◌then◌else◌}

-- the number in `count` bits from bit `low` on
abbrev pub field : ℕ → ℕ → ℕ → ℕ
field w low count = w / 2 ^ low % 2 ^ count

-- a number of a given width in bits, in two's complement
abbrev pub sign_extended : ℕ → ℕ → ℤ
sign_extended count n = if nat_lt n (2 ^ (count - 1)) then pos n else pos n -ℤ pos (2 ^ count)

-- the register that is written
abbrev pub rd : ℕ → ℕ
rd w = field w 7 5

-- the first register that is read
abbrev pub rs1 : ℕ → ℕ
rs1 w = field w 15 5

-- the second register that is read
abbrev pub rs2 : ℕ → ℕ
rs2 w = field w 20 5

-- The immediates of the formats I, S, B, U and J, with their bits as in the manual's figures. The U
-- immediate is only the field, without the twelve zero bits below it. Here is that of format I.
abbrev pub imm_i : ℕ → ℤ
imm_i w = sign_extended 12 (field w 20 12)

-- the immediate of format S
abbrev pub imm_s : ℕ → ℤ
imm_s w = sign_extended 12 (field w 25 7 * 2 ^ 5 + field w 7 5)

-- the offset of format B, in bytes
abbrev pub imm_b : ℕ → ℤ
imm_b w =
    sign_extended 13
    (field w 31 1 * 2 ^ 12 + field w 7 1 * 2 ^ 11 + field w 25 6 * 2 ^ 5 + field w 8 4 * 2)

-- the upper twenty bits, the immediate of format U without its twelve zero bits
abbrev pub imm_u : ℕ → ℕ
imm_u w = field w 12 20

-- the offset of format J, in bytes
abbrev pub imm_j : ℕ → ℤ
imm_j w =
    sign_extended 21
    (field w 31 1 * 2 ^ 20 + field w 12 8 * 2 ^ 12 + field w 20 1 * 2 ^ 11 + field w 21 10 * 2)
