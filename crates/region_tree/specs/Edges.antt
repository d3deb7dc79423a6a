-- The edges of a word of code, for the control-flow graph. Source: this project's profile; targets
-- are those of the RISC-V unprivileged manual, "Control Transfer Instructions".
use Rattle.std.specs.Prelude.{ℕ, ◌+◌, ◌%◌, ◌^◌, ◌==◌, ℤ, pos, ◌+ℤ◌}
use Rattle.std.specs.Prelude.{if◌then◌else◌, Option, Some, None}
use Rattle.rv_decode.specs.Encoding.{low_bits}
use Rattle.rv_decode.specs.Table.{ins}
use Rattle.rv_decode.specs.declared.instruction.Ins.{Ins}
use Rattle.rv_decode.specs.declared.instruction.Ins.TheVariants.{Jal, Jalr, Branch, Load}
use Rattle.rv_decode.specs.declared.instruction.Ins.TheVariants.{Muldiv, Ecall, Ebreak, Mret}
use Rattle.rv_decode.specs.declared.instruction.Ins.TheVariants.{Csr, Du, Wu, Ee, De, Illegal}
use Rattle.rv_decode.specs.Lag.{plain_lag, late_lag, redirect_lag}
use Rattle.region_tree.specs.declared.edges.Stop.{Stop}
use Rattle.region_tree.specs.declared.edges.Stop.TheVariants.{No, Indirect, Timed}
use Rattle.region_tree.specs.declared.edges.Edges.{Edges}

-- an address and an offset, modulo 2 ^ 32
abbrev pub offset : ℕ → ℤ → ℕ
offset address off = low_bits 32 (pos address +ℤ off)

-- a jump's target, if it is a multiple of four: any other jump traps
abbrev pub aligned_target : ℕ → Option ℕ
aligned_target target = if target % 4 == 0 then Some target else None

-- on to the next word, with this lag
abbrev pub next_edge : ℕ → ℕ → Edges
next_edge address lag =
    record { next = Some ((address + 4) % 2 ^ 32); next_lag = lag; jump = None; stop = No }

-- no edge, for this cause
abbrev pub no_edges : Stop → Edges
no_edges stop = record { next = None; next_lag = 0; jump = None; stop = stop }

-- the edges of an instruction at an address
unfoldable pub edges_from : ℕ → Ins → Edges
edges_from address (Load op rd rs1 imm) = next_edge address late_lag
edges_from address (Muldiv op rd rs1 rs2) = next_edge address late_lag
edges_from address (Csr op rd csr src) = next_edge address redirect_lag
edges_from address (Ee rs1 rs2) = next_edge address redirect_lag
edges_from address De = next_edge address redirect_lag
edges_from address (Branch op rs1 rs2 off) =
    record (next_edge address plain_lag) { jump = aligned_target (offset address off) }
edges_from address (Jal rd off) =
    record (no_edges No) { jump = aligned_target (offset address off) }
edges_from address Ecall = no_edges No
edges_from address Ebreak = no_edges No
edges_from address (Illegal w) = no_edges No
edges_from address (Jalr rd rs1 imm) = no_edges Indirect
edges_from address Mret = no_edges Indirect
edges_from address (Du rs1 rs2) = no_edges Timed
edges_from address (Wu rs1 rs2) = no_edges Timed
edges_from address i = next_edge address plain_lag

-- the edges of a word at an address
unfoldable pub edges_of : ℕ → ℕ → Edges
edges_of w address = edges_from address (ins w)
