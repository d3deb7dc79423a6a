use Rattle.std.proofs.Common.{◌<◌, ◌≤◌, length, slice_index_or, subst, sym}
use Rattle.region_tree.specs.Refusals.{IsLowest}
use Rattle.call_bounds.specs.Routines.{AreRoutines}
use Rattle.call_bounds.specs.CallRefusals.{OverlapAt}
use Rattle.call_bounds.specs.Listing.{calls}
use Rattle.call_bounds.proofs.OverlapLaws.{Overlaps, none, overlap-lowest, overlap-never}
use Rattle.call_bounds.proofs.tree.overlap.Goals as goal

pub returns-then-section-routine : goal.returns-then-section-routine
returns-then-section-routine c =
    let x = calls c.args.code.now in
    let i = c.loop-routine.routine-index in
    let same = c.routines-routine-items.ensures.value in
    let found : Overlaps c.section-section.result
    (slice_index_or c.routines-routine-items.result.now i none) =
    (c.if-routine-section.true, c.if-section-routine.true) in
    let here =
    subst (λ s. Overlaps s (slice_index_or x.routines i none)) c.section-section.ensures.value
    (subst (λ rs. Overlaps c.section-section.result (slice_index_or rs i none)) same found) in
    subst (λ rs. IsLowest (OverlapAt x) (slice_index_or rs i none).head) (sym same)
    (overlap-lowest x i (subst AreRoutines same c.routines-routine-items.ensures.rules)
    (subst (λ rs. i < length rs) same c.loop-routine-test.true) here c.loop-routine.invariant)

pub returns : goal.returns
returns c =
    overlap-never (calls c.args.code.now) c.loop-routine.routine-index
    (subst (λ rs. length rs ≤ c.loop-routine.routine-index) c.routines-routine-items.ensures.value
    c.loop-routine-test.false) c.loop-routine.invariant
