-- How large a cost can be.
use Rattle.std.specs.Prelude.{ℕ, zero, suc, ◌+◌, ◌*◌}
use Rattle.bound_calc.specs.Context.{Net, Scope, body}
use Rattle.fp_setup.specs.declared.loop_list.LoopSetup.{LoopSetup}

-- at most h loops, each inside the one before
abbrev pub Shallow : ℕ → Net → Scope → Type 0
Shallow zero g s = (j : LoopSetup) → s.loops j → ⊥
Shallow (suc h) g s = (j : LoopSetup) → s.loops j → Shallow h g (body g j)

-- the most that h levels of loops, each with at most b rounds, can multiply a cost by: (b + 1)^h
abbrev pub room : ℕ → ℕ → ℕ
room b zero = 1
room b (suc h) = room b h * (b + 1)
