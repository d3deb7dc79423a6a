use Rattle.std.proofs.Common.{◌≡◌, drop}
use Rattle.fp_setup.specs.SetupOfTables.{word_of}
use Rattle.fp_setup.proofs.nibble_list.word_of_digits.Given as goal

abbrev pub invariant-loop-i : goal.invariant-loop-i
invariant-loop-i l = l.word ≡ word_of l.base (drop l.i l.digits)
