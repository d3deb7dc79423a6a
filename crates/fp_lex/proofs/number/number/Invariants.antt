use Rattle.std.proofs.Common.{◌≡◌, ◌<◌, ◌^◌, drop}
use Rattle.fp_lex.specs.Bytes.{number_from}
use Rattle.fp_lex.proofs.number.number.Given as goal

abbrev pub invariant-loop-b : goal.invariant-loop-b
invariant-loop-b l =
    (l.n < 2 ^ 32)
    × (number_from l.base 0 l.digits ≡ number_from l.base l.n (drop l.b-index l.digits))
