use Rattle.std.proofs.Common.{◌≡◌, map}
use Rattle.fp_asm.specs.Second.{all_resolved}
use Rattle.fp_asm.specs.AbstractPieces.{abstract_labels}
use Rattle.fp_asm.specs.AbstractOperands.{abstract_target}
use Rattle.fp_asm.proofs.TargetByTarget.{resolved_from}
use Rattle.fp_asm.proofs.targets.resolve_all.Given as goal

abbrev pub invariant-loop-target : goal.invariant-loop-target
invariant-loop-target l =
    all_resolved (abstract_labels l.labels) (map abstract_target l.targets)
    ≡ resolved_from (abstract_labels l.labels) l.list.items l.targets l.target-index
