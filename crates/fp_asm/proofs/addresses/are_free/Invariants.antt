use Rattle.std.proofs.Common.{◌≡◌, not}
use Rattle.std.specs.List.{list_all}
use Rattle.fp_asm.specs.First.{is_taken, addresses}
use Rattle.fp_asm.proofs.addresses.are_free.Given as goal

abbrev pub invariant-loop-left : goal.invariant-loop-left
invariant-loop-left l =
    list_all (λ a. not (is_taken l.taken.keys a)) (addresses l.location l.n)
    ≡ list_all (λ a. not (is_taken l.taken.keys a)) (addresses l.a l.left)

abbrev pub decreases-loop-left : goal.decreases-loop-left
decreases-loop-left l = l.left
