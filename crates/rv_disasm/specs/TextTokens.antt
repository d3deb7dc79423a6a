-- The tokens in the line of an instruction.
use Rattle.std.specs.Prelude.{ℕ, suc, ◌==◌, ℤ, pos, negsuc, List, [], ◌∷◌}
use Rattle.std.specs.Prelude.{◌++◌, codes, decimal, flat_map, if◌then◌else◌}
use Rattle.rv_decode.specs.CsrNumbers.{csr_mtvec, csr_mscratch, csr_mepc, csr_mcause, csr_mhartid}
use Rattle.rv_decode.specs.CsrNumbers.{csr_slots, csr_modes, csr_dregions, csr_iregions}
use Rattle.fp_asm.specs.Pieces.{Text}
use Rattle.trace_print.specs.Digits.{hex}

-- A name, a number in decimal, `0x` and a number of hexadecimal digits, or a mark.
pub data TextToken : Type 0 where
  named : Text → TextToken
  counted : ℕ → TextToken
  digits : ℕ → ℕ → TextToken
  comma : TextToken
  opening : TextToken
  closing : TextToken
  minus : TextToken

-- the text of a part
abbrev pub token_text : TextToken → Text
token_text (named x) = x
token_text (counted n) = decimal n
token_text (digits width n) = codes "0x" ++ hex width n
token_text comma = codes ", "
token_text opening = codes "("
token_text closing = codes ")"
token_text minus = codes "-"

-- A mnemonic with its operands.
pub record Line : Type 0 where
  pub mnemonic : Text
  pub operands : List TextToken

abbrev pub line : Text → List TextToken → Line
line mnemonic operands = record { mnemonic = mnemonic; operands = operands }

-- the operands after a space, if there are any
abbrev pub behind : List TextToken → Text
behind [] = []
behind (p ∷ ps) = codes " " ++ flat_map token_text (p ∷ ps)

-- the text of a line
abbrev pub line_text : Line → Text
line_text l = l.mnemonic ++ behind l.operands

-- `x0` to `x31`
abbrev pub register_token : ℕ → TextToken
register_token r = named (codes "x" ++ decimal r)

-- a number with its sign
abbrev pub signed : ℤ → List TextToken
signed (pos n) = counted n ∷ []
signed (negsuc n) = minus ∷ counted (suc n) ∷ []

-- a control and status register: its name if it has one, else its number
abbrev pub csr_token : ℕ → TextToken
csr_token n =
    if n == csr_mtvec then named (codes "mtvec")
    else if n == csr_mscratch then named (codes "mscratch")
    else if n == csr_mepc then named (codes "mepc")
    else if n == csr_mcause then named (codes "mcause")
    else if n == csr_mhartid then named (codes "mhartid")
    else if n == csr_slots then named (codes "slots")
    else if n == csr_modes then named (codes "modes")
    else if n == csr_dregions then named (codes "dregions")
    else if n == csr_iregions then named (codes "iregions")
    else digits 3 n

-- The forms of operands.
abbrev pub two_registers : ℕ → ℕ → List TextToken
two_registers a b = register_token a ∷ comma ∷ register_token b ∷ []

abbrev pub three_registers : ℕ → ℕ → ℕ → List TextToken
three_registers d a b = register_token d ∷ comma ∷ register_token a ∷ comma ∷ register_token b ∷ []

abbrev pub with_number : ℕ → ℕ → ℤ → List TextToken
with_number d a n = register_token d ∷ comma ∷ register_token a ∷ comma ∷ signed n

-- an offset and a base: `N(rs1)`
abbrev pub with_memory : ℕ → ℤ → ℕ → List TextToken
with_memory r offset base =
    register_token r ∷ comma ∷ (signed offset ++ (opening ∷ register_token base ∷ closing ∷ []))

abbrev pub with_csr : ℕ → ℕ → TextToken → List TextToken
with_csr d csr source = register_token d ∷ comma ∷ csr_token csr ∷ comma ∷ source ∷ []

abbrev pub with_upper : ℕ → ℕ → List TextToken
with_upper d imm = register_token d ∷ comma ∷ digits 5 imm ∷ []

abbrev pub with_target : ℕ → ℕ → List TextToken
with_target d to = register_token d ∷ comma ∷ digits 8 to ∷ []

abbrev pub with_branch : ℕ → ℕ → ℕ → List TextToken
with_branch a b to = register_token a ∷ comma ∷ register_token b ∷ comma ∷ digits 8 to ∷ []
