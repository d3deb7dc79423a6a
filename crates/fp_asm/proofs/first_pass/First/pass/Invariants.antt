use Rattle.std.proofs.Common.{◌≡◌, ◌+◌, map, drop}
use Rattle.fp_asm.specs.First.{first_pass}
use Rattle.fp_asm.specs.AbstractPasses.{abstract_first}
use Rattle.fp_asm.proofs.first_pass.First.pass.Given as goal

abbrev pub invariant-loop-i : goal.invariant-loop-i
invariant-loop-i l =
    first_pass 1 (abstract_first l.initial.self) (map (λ x. x.now) l.lines)
    ≡ first_pass (l.i + 1) (abstract_first l.self) (map (λ x. x.now) (drop l.i l.lines))
