-- The segments so far, and the rest of the file.
use Rattle.std.proofs.Common.{◌≡◌, ◌≤◌, ◌-◌, length}
use Rattle.fp_image.specs.Format.{segments_of}
use Rattle.fp_image.specs.Rules.{IsImage}
use Rattle.fp_image.proofs.Rising.{ends}
use Rattle.fp_image.proofs.Steps.{joined}
use Rattle.fp_image.proofs.reader.read_segments.Given as goal

abbrev pub invariant-loop-done : goal.invariant-loop-done
invariant-loop-done l = record {
  whole : segments_of l.size l.total l.count 0 l.bytes
      ≡ joined l.image (segments_of l.size l.total (l.count - l._done) l.from l.rest);
  rules : IsImage l.size l.image;
  count : length l.image ≡ l._done;
  end : ends 0 l.image ≡ l.from;
  inside : length l.rest ≤ l.total;
}
