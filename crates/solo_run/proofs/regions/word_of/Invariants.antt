use Rattle.std.proofs.Common.{◌≡◌, drop}
use Rattle.fp_setup.specs.SetupOfTables.{word_of}
use Rattle.solo_run.proofs.regions.word_of.Given as goal

abbrev pub invariant-loop-i : goal.invariant-loop-i
invariant-loop-i l = l.word ≡ word_of 16 (drop l.i l.digits)
