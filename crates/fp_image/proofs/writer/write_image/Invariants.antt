-- The segments so far are written.
use Rattle.std.proofs.Common.{◌≡◌, ◌++◌, length, take}
use Rattle.std.specs.Prelude.{codes}
use Rattle.std.specs.List.{flat_map}
use Rattle.byteorder.specs.Endian.{little_bytes}
use Rattle.fp_image.specs.Format.{segment_written}
use Rattle.fp_image.proofs.writer.write_image.Given as goal

abbrev pub invariant-loop-segment : goal.invariant-loop-segment
invariant-loop-segment l =
    l.bytes.items ≡ codes "FPX1" ++ (little_bytes 4 (length l.segments)
    ++ flat_map segment_written (take l.segment-index l.segments))
