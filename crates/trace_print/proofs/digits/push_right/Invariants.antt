-- The spaces so far.
use Rattle.std.proofs.Common.{◌≡◌, ◌≤◌, ◌-◌, ◌++◌, max, length}
use Rattle.std.specs.Prelude.{replicate}
use Rattle.trace_print.proofs.digits.push_right.Given as goal

abbrev pub invariant-loop-column : goal.invariant-loop-column
invariant-loop-column l = record {
  spaces : l.text.bytes ≡ l.initial.text.bytes ++ replicate (l._column - length l.digits) 32;
  at_most : l._column ≤ max l.width (length l.digits);
}
