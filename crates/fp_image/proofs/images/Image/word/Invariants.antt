-- The segments before don't have the address.
use Rattle.std.proofs.Common.{◌≡◌, drop}
use Rattle.fp_image.specs.Rules.{word}
use Rattle.fp_image.proofs.images.Image.word.Given as goal

abbrev pub invariant-loop-segment : goal.invariant-loop-segment
invariant-loop-segment l =
    word l.segment-items l.address ≡ word (drop l.segment-index l.segment-items) l.address
