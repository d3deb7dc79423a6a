-- What the contracts of all functions say of a result.
use Rattle.std.specs.Prelude.{◌≡◌, ℕ, ◌%◌}
use Rattle.hart_exec.specs.declared.result.ExecResult.{ExecResult}
use Rattle.hart_exec.specs.Effects.{IsPrintableEffect, IsAlignedStore}

-- the next pc is a multiple of four, a line of a trace can show the effect, and a store is aligned
pub record IsWellFormed (x : ExecResult) : Type 0 where
  pub pc : x.pc % 4 ≡ 0
  pub printable : IsPrintableEffect x.effect
  pub store : IsAlignedStore x.effect

-- the result of an instruction with this word that accesses no memory
pub record IsPlain (w : ℕ) (x : ExecResult) : Type 0 where
  pub fits : IsWellFormed x
  pub word : x.word ≡ w
  pub address : x.address ≡ 0
