use Rattle.std.proofs.Common.{◌≡◌, map, take}
use Rattle.fp_asm.specs.Runs.{segment_of}
use Rattle.fp_asm.proofs.build.image_of.Given as goal

abbrev pub invariant-loop-run : goal.invariant-loop-run
invariant-loop-run l = l.image ≡ map (segment_of l.memory.entries) (take l.run-index l.runs)
