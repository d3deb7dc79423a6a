use Rattle.std.proofs.Common.{◌≡◌, ◌∙◌, ◌≤◌, ap, length, arith}
use Rattle.fp_asm.specs.Runs.{runs_of, ArePlaced}
use Rattle.fp_asm.proofs.Segments.{placed_few, runs_image}
use Rattle.fp_asm.proofs.assembler.image_at.Goals as goal

pub runs_of-requires : goal.runs_of-requires
runs_of-requires c =
    let same : c.as_slice.result.now ≡ c.args.taken.now.keys =
    c.as_slice.ensures.value ∙ c.in_ok-addresses.ensures in
    omega (arith, ap length same, placed_few 0 c.args.taken.now.keys c.requires (omega arith))

pub image_of-requires : goal.image_of-requires
image_of-requires c =
    let same : c.as_slice.result.now ≡ c.args.taken.now.keys =
    c.as_slice.ensures.value ∙ c.in_ok-addresses.ensures in
    let rising : ArePlaced 0 c.as_slice.result.now = rw same c.requires in
    let few : length (runs_of c.as_slice.result.now) ≤ 16 =
    omega (arith, c.len.ensures, ap length c.in_ok-runs.ensures, c.if-len-gt-MOST_SEGMENTS.false) in
    rw (c.as_slice-2.ensures.value ∙ c.in_ok-runs.ensures)
    (runs_image c.args.memory.now.entries c.as_slice.result.now rising few)
