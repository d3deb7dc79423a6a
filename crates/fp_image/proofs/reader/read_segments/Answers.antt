-- Each segment that is read is the next one of the definition.
use Rattle.std.proofs.Common.{◌≡◌, ◌≤◌, ◌<◌, suc, ◌+◌, ◌-◌, List, [], ◌∷◌, ◌++◌}
use Rattle.std.proofs.Common.{length, ◌∙◌, arith, length-append, length-drop}
use Rattle.std.proofs.lemmas.Result.{err_from_is_err_and}
use Rattle.fp_image.specs.declared.parts.Segment.{Segment}
use Rattle.fp_image.proofs.Rising.{ends, ends-append, IsImage-append, IsImage-wider}
use Rattle.fp_image.proofs.Steps.{segments_of-next, is_defined, stops, ends_well, trails}
use Rattle.fp_image.proofs.reader.read_segments.Goals as goal

pub returns-in_err-segment-clause-value : goal.returns-in_err-segment-clause-value
returns-in_err-segment-clause-value c =
    let p = err_from_is_err_and c.from_residual.result c.from_residual.ensures.1 in
    let next : c.args.count - c.loop-done._done ≡ suc (c.args.count - (c.loop-done._done + 1)) =
    omega arith in
    rw (p.1, p.2)
    (stops _ _ _ _ _ _ _ _ _ next c.loop-done.invariant.whole c.in_err-segment.ensures.value)

pub add-requires : goal.add-requires
add-requires c =
    let few : length c.loop-done.image < 16 = omega arith in
    let after : ends 0 c.loop-done.image ≤ c.in_ok-segment.segment.address =
    omega (arith, c.in_ok-segment.ensures.rises) in
    IsImage-wider c.args.size _ c.requires.size
    (IsImage-append c.args.size c.loop-done.image c.in_ok-segment.segment
    c.loop-done.invariant.rules few c.in_ok-segment.ensures.placed after)

pub loop-done-preserved : goal.loop-done-preserved
loop-done-preserved c =
    let xs : List Segment = c.loop-done.image in
    let s : Segment = c.in_ok-segment.segment in
    let added : c.add.new.self ≡ xs ++ s ∷ [] = rw c.if-is_err.ensures.negation at c.add.ensures in
    let few : length xs < 16 = omega arith in
    let after : ends 0 xs ≤ s.address = omega (arith, c.in_ok-segment.ensures.rises) in
    let next : c.args.count - c.loop-done._done ≡ suc (c.args.count - (c.loop-done._done + 1)) =
    omega arith in
    record {
      whole =
          rw (added, c.split_at.ensures.back, c.as_slice-len.ensures)
          (c.loop-done.invariant.whole
          ∙ segments_of-next _ _ _ _ _ _ xs s next (is_defined s _ c.in_ok-segment.ensures.value));
      rules =
          rw added (IsImage-append c.args.size xs s c.loop-done.invariant.rules few
          c.in_ok-segment.ensures.placed after);
      count = rw added (simp length-append (omega arith));
      end = rw (added, c.as_slice-len.ensures) (ends-append 0 xs s);
      inside = rw c.split_at.ensures.back (simp length-drop (omega arith));
    }

pub returns-then-not-is_empty-clause-value : goal.returns-then-not-is_empty-clause-value
returns-then-not-is_empty-clause-value c =
    let some : 0 < length c.loop-done.rest.now = grind arith in
    rw c.fault.ensures (trails _ _ _ _ _ _ _ (omega arith) c.loop-done.invariant.whole some)

pub returns-clause-value : goal.returns-clause-value
returns-clause-value c =
    let none : length c.loop-done.rest.now ≡ 0 = grind arith in
    ends_well _ _ _ _ _ _ _ (omega arith) c.loop-done.invariant.whole none
