use Rattle.std.proofs.Common.{◌≡◌, ◌+◌, ◌%◌, map, drop}
use Rattle.fp_asm.specs.Second.{second_pass}
use Rattle.fp_asm.specs.AbstractPieces.{abstract_labels}
use Rattle.fp_asm.specs.AbstractPasses.{abstract_second}
use Rattle.fp_asm.proofs.second_pass.Second.pass.Given as goal

abbrev pub invariant-loop-i : goal.invariant-loop-i
invariant-loop-i l = record {
  aligned : l.self.location % 4 ≡ 0;
  so_far : second_pass 1 (abstract_labels l.labels) (abstract_second l.initial.self)
      (map (λ x. x.now) l.lines) ≡ second_pass (l.i + 1) (abstract_labels l.labels)
      (abstract_second l.self) (map (λ x. x.now) (drop l.i l.lines));
}
