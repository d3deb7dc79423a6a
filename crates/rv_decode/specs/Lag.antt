-- The table of lags: after an issue in cycle c the thread's next instruction issues at its first
-- turn at or after cycle c + lag. Source: this project's profile.
use Rattle.std.specs.Prelude.{ℕ, Bool, true, false, if◌then◌else◌}
use Rattle.rv_decode.specs.declared.instruction.Ins.{Ins}
use Rattle.rv_decode.specs.declared.instruction.Ins.TheVariants.{Jal, Jalr, Branch, Load}
use Rattle.rv_decode.specs.declared.instruction.Ins.TheVariants.{Muldiv, Ecall, Ebreak, Mret}
use Rattle.rv_decode.specs.declared.instruction.Ins.TheVariants.{Csr, Du, Wu, Ee, De, Illegal}

-- the three lags: of an instruction that the next word follows at once, of one whose value comes
-- late, and of one that redirects the thread
abbrev pub plain_lag : ℕ
plain_lag = 1

abbrev pub late_lag : ℕ
late_lag = 2

abbrev pub redirect_lag : ℕ
redirect_lag = 3

-- The lag of an instruction, from whether it is a taken branch and whether it traps. ECALL, EBREAK
-- and a word that is no instruction always trap, so their rows ignore both arguments.
unfoldable pub lag : Ins → Bool → Bool → ℕ
lag i taken true = redirect_lag
lag (Load op rd rs1 imm) taken false = late_lag
lag (Muldiv op rd rs1 rs2) taken false = late_lag
lag (Branch op rs1 rs2 off) taken false = if taken then redirect_lag else plain_lag
lag (Jal rd off) taken false = redirect_lag
lag (Jalr rd rs1 imm) taken false = redirect_lag
lag Mret taken false = redirect_lag
lag (Csr op rd csr src) taken false = redirect_lag
lag (Du rs1 rs2) taken false = redirect_lag
lag (Wu rs1 rs2) taken false = redirect_lag
lag (Ee rs1 rs2) taken false = redirect_lag
lag De taken false = redirect_lag
lag Ecall taken false = redirect_lag
lag Ebreak taken false = redirect_lag
lag (Illegal w) taken false = redirect_lag
lag i taken false = plain_lag
