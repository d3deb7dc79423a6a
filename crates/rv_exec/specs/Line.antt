-- The effects that a line of a trace can show.
use Rattle.std.specs.Prelude.{◌≡◌, ◌⊎◌, ℕ, ◌<◌, ◌^◌, Option, Some, None}
use Rattle.rv_exec.specs.declared.outcome.Effect.{Effect}
use Rattle.rv_exec.specs.declared.outcome.Effect.TheVariants.{Nothing, Reg, Store, Csr, Trap, Wait}
use Rattle.rv_exec.specs.declared.outcome.Event.{Event}

-- the numbers of bytes that a store writes
abbrev pub IsWidth : ℕ → Type 0
IsWidth size = (size ≡ 1) ⊎ ((size ≡ 2) ⊎ (size ≡ 4))

-- a register is below 32, a CSR number below 4096, a store's value within its 1, 2 or 4 bytes, a
-- cause within a byte
abbrev pub IsPrintable : Effect → Type 0
IsPrintable Nothing = Unit {0}
IsPrintable (Reg rd value) = rd < 32
IsPrintable (Store address size value) = IsWidth size × (value < 256 ^ size)
IsPrintable (Csr csr value rd old) = (csr < 4096) × (rd < 32)
IsPrintable (Trap cause target) = cause < 256
IsPrintable Wait = Unit {0}

-- an event, if there is one, can be shown in a line
abbrev pub IsPrintableEvent : Option Event → Type 0
IsPrintableEvent (Some e) = IsPrintable e.effect
IsPrintableEvent None = Unit {0}
