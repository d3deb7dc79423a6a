use Rattle.std.proofs.Common.{◌∙◌, arith}
use Rattle.std.proofs.lemmas.Grind.{common_steps}
use Rattle.fp_asm.proofs.Segments.{all_short, image_more}
use Rattle.fp_asm.proofs.build.image_of.Goals as goal

pub add-requires : goal.add-requires
add-requires c =
    rw (c.loop-run.invariant, c.from_vec.ensures ∙ c.in_ok-bytes.ensures)
    (image_more c.args.memory.now.entries c.args.runs.now c.loop-run.run-index
    (record { first = 0; count = 0 }) c.requires c.loop-run-test.true)

pub loop-run-preserved : goal.loop-run-preserved
loop-run-preserved c = grind (arith, common_steps)

pub bytes_of-requires : goal.bytes_of-requires
bytes_of-requires c = grind (arith, all_short)
