-- Invariants of the contents of the stage registers.
use Rattle.std.specs.Prelude.{◌≡◌, ℕ, ◌<◌, ◌%◌, ◌==◌, Bool, false}
use Rattle.std.specs.Prelude.{not, ◌&&◌, ◌||◌, Option, Some, None}
use Rattle.std.proofs.Common.{inl, inr, ap, arith}
use Rattle.std.proofs.Math.Nat.{ℕ_set}
use Rattle.std.proofs.Math.Bridge.{le_prop}
use Rattle.rv_decode.specs.Table.{ins}
use Rattle.rv_decode.specs.declared.instruction.Ins.{Ins}
use Rattle.rv_decode.specs.declared.instruction.Ins.TheVariants.{Load, Store}
use Rattle.rv_exec.specs.Access.{IsAligned}
use Rattle.rv_exec.specs.Line.{IsWidth}
use Rattle.rv_exec.specs.declared.outcome.Effect.{Effect}
use Rattle.rv_exec.specs.declared.outcome.Effect.TheVariants as effect
use Rattle.region_guard.specs.MemoryMap.{port_address}
use Rattle.region_guard.specs.Regions.{is_code, is_data}
use Rattle.core_model.specs.Issue.{is_load}
use Rattle.hart_exec.specs.Effects.{IsPrintableEffect, IsAlignedStore}
use Rattle.pipe_model.specs.declared.stage_registers.Held.{Held}
use Rattle.pipe_model.specs.declared.stage_registers.Held.TheVariants.{Bubble, Flushed, Issue}
use Rattle.pipe_model.specs.declared.stage_registers.Fetched.{Fetched}
use Rattle.pipe_model.specs.declared.stage_registers.Decoded.{Decoded}
use Rattle.pipe_model.specs.declared.stage_registers.Executed.{Executed}
use Rattle.pipe_model.specs.declared.stage_registers.Stored.{Stored}
use Rattle.pipe_model.specs.declared.stage_registers.Written.{Written}
use Rattle.pipe_model.specs.declared.stage_registers.Redirect.{Redirect}

-- a pc is a multiple of four
abbrev pub IsPc : ℕ → Type 0
IsPc pc = pc % 4 ≡ 0

-- an effect can be shown, and a store is aligned
abbrev pub EffectFits : Option Effect → Type 0
EffectFits e = IsPrintableEffect e × IsAlignedStore e

-- The thread of a turn is 0 to 7. Issues in f and d have a pc, and those in e and m an effect that
-- fits. The address in e is aligned for a load or store.
abbrev pub FetchedFits : Held Fetched → Type 0
FetchedFits Bubble = Unit {0}
FetchedFits (Flushed k) = k < 8
FetchedFits (Issue k x) = (k < 8) × IsPc x.pc

abbrev pub DecodedFits : Held Decoded → Type 0
DecodedFits Bubble = Unit {0}
DecodedFits (Flushed k) = k < 8
DecodedFits (Issue k x) = (k < 8) × IsPc x.pc

abbrev pub ExecutedFits : Held Executed → Type 0
ExecutedFits Bubble = Unit {0}
ExecutedFits (Flushed k) = k < 8
ExecutedFits (Issue k x) = (k < 8) × EffectFits x.effect × IsAligned (ins x.word) x.address

abbrev pub StoredFits : Held Stored → Type 0
StoredFits Bubble = Unit {0}
StoredFits (Flushed k) = k < 8
StoredFits (Issue k x) = (k < 8) × EffectFits x.effect

abbrev pub WrittenFits : Held Written → Type 0
WrittenFits Bubble = Unit {0}
WrittenFits (Flushed k) = k < 8
WrittenFits (Issue k x) = k < 8

-- whether a load goes to the port
abbrev pub loads_port : ℕ → Executed → Bool
loads_port size x = is_load (ins x.word) && not (is_code size x.address || is_data size x.address)

-- whether an effect is a store to the port
abbrev pub at_port : Option Effect → Bool
at_port (Some (effect.Store address width value)) = address == port_address
at_port _ = false

abbrev pub effect_uses_port : ℕ → Executed → Option Effect → Bool
effect_uses_port size x (Some effect.Nothing) = loads_port size x
effect_uses_port size x e = at_port e

-- whether a turn that enters M reads or writes the port of its thread
abbrev pub uses_port : ℕ → Held Executed → Bool
uses_port size (Issue k x) = effect_uses_port size x x.effect
uses_port size _ = false

-- a redirect has a thread below 8 and a pc
abbrev pub RedirectFits : Option Redirect → Type 0
RedirectFits (Some r) = (r.thread < 8) × IsPc r.pc
RedirectFits None = Unit {0}

-- each of these is a proposition
width-prop : (size : ℕ) → IsProp (IsWidth size)
width-prop size (inl a) (inl b) = ap inl (ℕ_set size 1 a b)
width-prop size (inl a) (inr (inl b)) = absurd (omega arith)
width-prop size (inl a) (inr (inr b)) = absurd (omega arith)
width-prop size (inr (inl a)) (inl b) = absurd (omega arith)
width-prop size (inr (inl a)) (inr (inl b)) = ap (λ (x : size ≡ 2). inr (inl x)) (ℕ_set size 2 a b)
width-prop size (inr (inl a)) (inr (inr b)) = absurd (omega arith)
width-prop size (inr (inr a)) (inl b) = absurd (omega arith)
width-prop size (inr (inr a)) (inr (inl b)) = absurd (omega arith)
width-prop size (inr (inr a)) (inr (inr b)) = ap (λ (x : size ≡ 4). inr (inr x)) (ℕ_set size 4 a b)

printable-prop : (e : Option Effect) → IsProp (IsPrintableEffect e)
printable-prop None = hlevel (le_prop, ℕ_set)
printable-prop (Some effect.Nothing) = hlevel (le_prop, ℕ_set)
printable-prop (Some (effect.Reg rd value)) = hlevel (le_prop, ℕ_set)
printable-prop (Some (effect.Store address size value)) = hlevel (width-prop, le_prop, ℕ_set)
printable-prop (Some (effect.Csr csr value rd old)) = hlevel (le_prop, ℕ_set)
printable-prop (Some (effect.Trap cause target)) = hlevel (le_prop, ℕ_set)
printable-prop (Some effect.Wait) = hlevel (le_prop, ℕ_set)

store-prop : (e : Option Effect) → IsProp (IsAlignedStore e)
store-prop None = hlevel (le_prop, ℕ_set)
store-prop (Some effect.Nothing) = hlevel (le_prop, ℕ_set)
store-prop (Some (effect.Reg rd value)) = hlevel (le_prop, ℕ_set)
store-prop (Some (effect.Store address size value)) = hlevel (le_prop, ℕ_set)
store-prop (Some (effect.Csr csr value rd old)) = hlevel (le_prop, ℕ_set)
store-prop (Some (effect.Trap cause target)) = hlevel (le_prop, ℕ_set)
store-prop (Some effect.Wait) = hlevel (le_prop, ℕ_set)

aligned-prop : (i : Ins) (address : ℕ) → IsProp (IsAligned i address)
aligned-prop (Load op rd rs1 imm) address = hlevel (le_prop, ℕ_set)
aligned-prop (Store op rs1 rs2 imm) address = hlevel (le_prop, ℕ_set)
aligned-prop _ address = hlevel (le_prop, ℕ_set)

pub FetchedFits-prop : (held : Held Fetched) → IsProp (FetchedFits held)
FetchedFits-prop Bubble = hlevel (le_prop, ℕ_set)
FetchedFits-prop (Flushed k) = hlevel (le_prop, ℕ_set)
FetchedFits-prop (Issue k x) = hlevel (le_prop, ℕ_set)

pub DecodedFits-prop : (held : Held Decoded) → IsProp (DecodedFits held)
DecodedFits-prop Bubble = hlevel (le_prop, ℕ_set)
DecodedFits-prop (Flushed k) = hlevel (le_prop, ℕ_set)
DecodedFits-prop (Issue k x) = hlevel (le_prop, ℕ_set)

pub ExecutedFits-prop : (held : Held Executed) → IsProp (ExecutedFits held)
ExecutedFits-prop Bubble = hlevel (le_prop, ℕ_set)
ExecutedFits-prop (Flushed k) = hlevel (le_prop, ℕ_set)
ExecutedFits-prop (Issue k x) = hlevel (printable-prop, store-prop, aligned-prop, le_prop, ℕ_set)

pub StoredFits-prop : (held : Held Stored) → IsProp (StoredFits held)
StoredFits-prop Bubble = hlevel (le_prop, ℕ_set)
StoredFits-prop (Flushed k) = hlevel (le_prop, ℕ_set)
StoredFits-prop (Issue k x) = hlevel (printable-prop, store-prop, le_prop, ℕ_set)

pub WrittenFits-prop : (held : Held Written) → IsProp (WrittenFits held)
WrittenFits-prop Bubble = hlevel (le_prop, ℕ_set)
WrittenFits-prop (Flushed k) = hlevel (le_prop, ℕ_set)
WrittenFits-prop (Issue k x) = hlevel (le_prop, ℕ_set)
