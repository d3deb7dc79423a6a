-- A region register stores an accepted word unchanged.
use Rattle.std.proofs.Common.{refl, rules}
use Rattle.core_model.specs.Csr.{may_hold}
use Rattle.trap_unit.proofs.Held.{regions_kept, same_guard}
use Rattle.trap_unit.proofs.shared.write_shared.Goals as goal

pub returns-in-Ok-from_word-clause-sched : goal.returns-in-Ok-from_word-clause-sched
unfolding may_hold
returns-in-Ok-from_word-clause-sched c = search rules

pub returns-in-Ok-from_word-2-clause-guard : goal.returns-in-Ok-from_word-2-clause-guard
returns-in-Ok-from_word-2-clause-guard c =
    rw c.in-1986.is
    (same_guard _ _ _ _ _ _ _ refl (regions_kept _ _ c.in-Ok-from_word-2.ensures.regions))

pub returns-in-Ok-from_word-3-clause-guard : goal.returns-in-Ok-from_word-3-clause-guard
returns-in-Ok-from_word-3-clause-guard c =
    rw c.in-1987.is
    (same_guard _ _ _ _ _ _ _ (regions_kept _ _ c.in-Ok-from_word-3.ensures.regions) refl)
