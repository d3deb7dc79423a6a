-- The theorems on visits of the machines of setups in closed loops, from those on starts.
use Rattle.std.proofs.Common.{◌≡◌, ℕ, ◌<◌, ◌++◌, ◌∷◌, List, subst, arith}
use Rattle.setup_model.specs.Start.{start}
use Rattle.isolation.specs.TraceLaws.{Machine}
use Rattle.visit_bounds.specs.CallsInSettings.{CallVisitsAreBoundedInSettings}
use Rattle.visit_bounds.specs.InSettings.{VisitsAreBoundedInSettings}
use Rattle.visit_bounds.specs.SetupInSettings.{StartsHard}
use Rattle.visit_bounds.specs.SetupVisitBound.{tree_in}
use Rattle.visit_bounds.specs.Visits.{Issued}
use Rattle.visit_bounds.proofs.Linking.{AreBelow, all-below, below-at}
use Rattle.visit_bounds.proofs.Scheduled.{always-set}
use Rattle.visit_bounds.proofs.Starts.{alike-words}
use Rattle.visit_bounds.proofs.CallStarts.{alike-call-words}
use Rattle.closed_laws.specs.ClosedTraces.{Responses, loop_run}
use Rattle.closed_laws.specs.ClosedVisits.{IsSetInLoop, KeepsLoopScheduling, loop_issues}
use Rattle.closed_laws.specs.ClosedVisits.{LoopCallVisitsStayBounded}
use Rattle.closed_laws.specs.ClosedVisits.{LoopCallVisitsStayBoundedInSettings}
use Rattle.closed_laws.specs.ClosedVisits.{LoopVisitsStayBounded, LoopVisitsStayBoundedInSettings}

pub visits-in-settings : VisitsAreBoundedInSettings → LoopVisitsStayBoundedInSettings
visits-in-settings law setup image s slots i b m responses every n
    is most rules h last before here v keeps =
    let w = alike-words setup image s m n is rules h in
    law (tree_in setup image s) slots i b (loop_run m responses every n) n is most
    (record { eight = w.eight; same_words = w.same_words }) last before here v keeps

pub call-visits-in-settings : CallVisitsAreBoundedInSettings → LoopCallVisitsStayBoundedInSettings
call-visits-in-settings law x slots i b m responses every n
    is ok most rules h last before here v comes keeps =
    let w = alike-call-words x m n is rules h in
    law x slots i b (loop_run m responses every n) n is ok most
    (record { eight = w.eight; same_words = w.same_words }) last before here v comes keeps

-- without writes of slots and modes, each cycle of a run has the setting of the start
sets : (m : Machine) (responses : Responses) (every slots i n : ℕ) → StartsHard m i slots →
    KeepsLoopScheduling m responses every n → (c : ℕ) → c < n →
    IsSetInLoop m responses every i slots n c
unfolding start
sets m responses every slots i n h kept =
    always-set (loop_run m responses every n) slots i n h.same_slots h.hard kept

ends : (m : Machine) (responses : Responses) (every i n : ℕ) (later : List Issued) (last : Issued)
    (rest : List Issued) → loop_issues m responses every i n ≡ later ++ (last ∷ rest) →
    last.cycle < n
ends m responses every i n later last rest among =
    below-at n later last rest (subst (λ (l : List Issued). AreBelow n l) among
    (all-below (loop_run m responses every n) i n))

pub visits-bounded : LoopVisitsStayBoundedInSettings → LoopVisitsStayBounded
visits-bounded law setup image s slots i b m responses every n
    is most rules starts h kept last before v keeps =
    let end : last.cycle < n =
    ends m responses every i n v.later last (before ++ v.earlier) v.among in
    law setup image s slots i b m responses every n is most rules h last before (λ c low high.
    sets m responses every slots i n starts kept c (let below : c < n = omega arith in below))
    v keeps

pub call-visits-bounded : LoopCallVisitsStayBoundedInSettings → LoopCallVisitsStayBounded
call-visits-bounded law x slots i b m responses every n
    is ok most rules starts h kept last before v comes keeps =
    let end : last.cycle < n =
    ends m responses every i n v.later last (before ++ v.earlier) v.among in
    law x slots i b m responses every n is ok most rules h last before (λ c low high.
    sets m responses every slots i n starts kept c (let below : c < n = omega arith in below))
    v comes keeps
