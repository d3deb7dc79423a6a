use Rattle.std.proofs.Common.{◌≡◌}
use Rattle.fp_asm.specs.First.{with_taken, addresses}
use Rattle.fp_asm.proofs.addresses.take.Given as goal

abbrev pub invariant-loop-left : goal.invariant-loop-left
invariant-loop-left l =
    with_taken l.initial.taken.keys (addresses l.location l.n)
    ≡ with_taken l.taken.keys (addresses l.a l.left)

abbrev pub decreases-loop-left : goal.decreases-loop-left
decreases-loop-left l = l.left
