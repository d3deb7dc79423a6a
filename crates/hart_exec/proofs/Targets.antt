-- A jump that doesn't trap goes to a multiple of four. So do a taken branch and the step to the
-- next word.
use Rattle.std.proofs.Common.{◌≡◌, ℕ, ◌+◌, ◌%◌, ◌^◌, Bool, true, false, None, refl, arith}
use Rattle.std.specs.Prelude.{if◌then◌else◌, ◌==◌}
use Rattle.std.proofs.lemmas.Bool.Decides.{nat_tests}
use Rattle.rv_decode.specs.declared.instruction.Ins.{Ins}
use Rattle.rv_decode.specs.declared.instruction.Ins.TheVariants as i
use Rattle.rv_exec.specs.Result.{result_of, unless, is_taken}
use Rattle.hart_exec.specs.Effects.{HasTarget}
use Rattle.hart_exec.proofs.Zero.{aligned_zero}

unless-none : (target cause : ℕ) → unless (target % 4 == 0) cause ≡ None → target % 4 ≡ 0
unless-none target cause h = go (target % 4 == 0) refl h
  where
    go : (b : Bool) → (target % 4 == 0) ≡ b → unless b cause ≡ None → target % 4 ≡ 0
    go true e k = grind (arith, nat_tests)
    go false e k = cc

branch-none : (taken : Bool) (target : ℕ) →
    (if taken then unless (target % 4 == 0) 0 else None) ≡ None → taken ≡ true → target % 4 ≡ 0
branch-none true target h e = unless-none target 0 h
branch-none false target h e = cc

pub has_target : (n : Ins) (pc x y : ℕ) → (result_of n pc x y).trap ≡ None →
    HasTarget n (result_of n pc x y)
unfolding result_of
has_target (i.Jal rd off) pc x y h = unless-none _ 0 h
has_target (i.Jalr rd rs1 imm) pc x y h = unless-none _ 0 h
has_target (i.Branch op rs1 rs2 off) pc x y h = branch-none (is_taken op x y) _ h
has_target _ pc x y h = tt

pub next_word : (pc : ℕ) → pc % 4 ≡ 0 → (pc + 4) % 2 ^ 32 % 4 ≡ 0
next_word pc h = omega arith

-- the address of the next instruction
pub ruleset steps = (aligned_zero, has_target)
