use Rattle.std.proofs.Common.{◌≡◌, ◌<◌, ℕ, List, arith, sym, subst, ◌∙◌}
use Rattle.fp_image.specs.Rules.{IsImage}
use Rattle.fp_image.specs.declared.parts.Segment.{Segment}
use Rattle.selfrun.proofs.DrawnLemmas.{all_segments, drawn-zero, image_rules}
use Rattle.selfrun.proofs.DrawnLemmas.{more_segments, next_number, one_more}
use Rattle.selfrun.proofs.drawing.drawn_image.Goals as goal

pub loop-k-init : goal.loop-k-init
loop-k-init c = record { image = c.new-image.ensures; x = drawn-zero c.args.number }

pub add-requires : goal.add-requires
add-requires c =
    let inv = c.loop-k.invariant in
    let k : ℕ = c.loop-k.k in
    let below : k < 8 = omega (arith, c.loop-k-test.true) in
    let P : List Segment → Type 0 = λ xs. IsImage 65536 xs in
    subst P (sym (one_more c.args.number k c.from.result c.loop-k.x c.from_vec.result c.loop-k.image
    c.from.ensures inv.x (c.from_vec.ensures ∙ c.in_ok-bytes.ensures.bytes) inv.image))
    (image_rules c.args.number k below)

pub loop-k-preserved : goal.loop-k-preserved
loop-k-preserved c =
    let inv = c.loop-k.invariant in
    let k : ℕ = c.loop-k.k in
    record {
      image =
          c.in_ok-add.ensures
          ∙ one_more c.args.number k c.from.result c.loop-k.x c.from_vec.result c.loop-k.image
          c.from.ensures inv.x (c.from_vec.ensures ∙ c.in_ok-bytes.ensures.bytes) inv.image
          ∙ sym (more_segments c.args.number k);
      x =
          next_number c.args.number k c.loop-k.x c.in_ok-bytes.last inv.x
          c.in_ok-bytes.ensures.last;
    }

pub returns : goal.returns
returns c =
    let end : c.loop-k.k ≡ 8 = omega (arith, c.loop-k-test.false, c.loop-k.auto.k-end) in
    all_segments c.args.number c.loop-k.k c.loop-k.image end c.loop-k.invariant.image
