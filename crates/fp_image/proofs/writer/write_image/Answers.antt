-- The written bytes are the defined file, which is read back as the image.
use Rattle.std.proofs.Common.{◌≤◌, ◌++◌, ◌∙◌, List, ap, length, slice_index_or, arith}
use Rattle.std.proofs.lemmas.List.{take_all}
use Rattle.std.specs.Prelude.{codes}
use Rattle.std.specs.List.{flat_map}
use Rattle.byteorder.specs.Endian.{little_bytes}
use Rattle.fp_image.specs.Format.{segment_written, file_of, image_of}
use Rattle.fp_image.specs.declared.parts.Segment.{Segment}
use Rattle.fp_image.proofs.Rising.{Rises-small}
use Rattle.fp_image.proofs.ReadBack.{image_of-written}
use Rattle.fp_image.proofs.writer.write_image.Goals as goal

pub push_segment-requires : goal.push_segment-requires
push_segment-requires c =
    let rules = c.segments-segments.ensures.rules in
    let is = rw c.segments-segments.ensures.segments at c.segment-item.is in
    let inside = rw c.segments-segments.ensures.segments at c.loop-segment-test.true in
    let small : length (slice_index_or c.args.image.now
    c.loop-segment.segment-index c.segment-item.result).bytes ≤ 65536 =
    Rises-small 65536 0 c.args.image.now c.loop-segment.segment-index c.segment-item.result
    (omega arith) rules.rising inside in
    omega (arith, small, ap (λ (s : Segment). length s.bytes) is)

pub returns-clause-bytes : goal.returns-clause-bytes
unfolding file_of
returns-clause-bytes c =
    c.loop-segment.invariant
    ∙ ap (λ (s : List Segment). codes "FPX1"
    ++ (little_bytes 4 (length c.segments-segments.result.now) ++ flat_map segment_written s))
    (take_all c.loop-segment.segment-index c.segments-segments.result.now c.loop-segment-test.false)
    ∙ ap (λ (s : List Segment). codes "FPX1" ++ (little_bytes 4 (length s)
    ++ flat_map segment_written s)) c.segments-segments.ensures.segments

pub returns-clause-read_back : goal.returns-clause-read_back
returns-clause-read_back c =
    λ size s h.
    ap (image_of size) (returns-clause-bytes c) ∙ image_of-written size c.args.image.now s h
