use Rattle.std.proofs.Common.{◌≡◌, ◌+◌, ◌≤◌, ◌^◌, drop}
use Rattle.command_line.specs.Numbers.{decimal_after}
use Rattle.command_line.proofs.numbers.decimal_value.Given as goal

abbrev pub invariant-loop-digit : goal.invariant-loop-digit
invariant-loop-digit l = record {
  value : decimal_after 0 l.digits ≡ decimal_after l.value (drop l.digit-index l.digits);
  small : l.value + 1 ≤ 10 ^ l.digit-index;
}
