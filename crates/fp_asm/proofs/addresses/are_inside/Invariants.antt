use Rattle.std.proofs.Common.{◌≡◌}
use Rattle.std.specs.List.{list_all}
use Rattle.fp_asm.specs.First.{is_inside, addresses}
use Rattle.fp_asm.proofs.addresses.are_inside.Given as goal

abbrev pub invariant-loop-left : goal.invariant-loop-left
invariant-loop-left l =
    list_all is_inside (addresses l.location l.n) ≡ list_all is_inside (addresses l.a l.left)

abbrev pub decreases-loop-left : goal.decreases-loop-left
decreases-loop-left l = l.left
