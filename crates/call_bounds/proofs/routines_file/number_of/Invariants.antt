-- the digits so far
use Rattle.std.proofs.Common.{◌≡◌, ◌+◌, ◌≤◌, ◌^◌, drop, true}
use Rattle.std.specs.List.{list_all}
use Rattle.call_bounds.specs.RoutinesFile.{is_digit, number_from}
use Rattle.call_bounds.proofs.routines_file.number_of.Given as goal

abbrev pub invariant-loop-byte : goal.invariant-loop-byte
invariant-loop-byte l = record {
  value : number_from 0 l.digits ≡ number_from l.number (drop l.byte-index l.digits);
  digits : list_all is_digit (drop l.byte-index l.digits) ≡ true;
  small : l.number + 1 ≤ 16 ^ l.byte-index;
}
