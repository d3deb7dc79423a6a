use Rattle.std.proofs.Common.{◌≡◌, ◌+◌, ◌≤◌, ◌^◌, drop}
use Rattle.command_line.specs.Numbers.{hexadecimal_after}
use Rattle.command_line.proofs.numbers.hexadecimal_value.Given as goal

abbrev pub invariant-loop-digit : goal.invariant-loop-digit
invariant-loop-digit l = record {
  value : hexadecimal_after 0 l.digits ≡ hexadecimal_after l.value (drop l.digit-index l.digits);
  small : l.value + 1 ≤ 16 ^ l.digit-index;
}
