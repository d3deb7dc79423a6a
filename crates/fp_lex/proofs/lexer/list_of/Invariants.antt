use Rattle.std.proofs.Common.{length, ◌-◌, ◌≡◌, ◌≤◌}
use Rattle.fp_lex.specs.Tokens.{tokens_from}
use Rattle.fp_lex.proofs.Along.{left}
use Rattle.fp_lex.proofs.lexer.list_of.Given as goal

abbrev pub invariant-loop-i : goal.invariant-loop-i
invariant-loop-i l =
    (l.i ≤ length l.line) × (tokens_from 0 0 0 l.line ≡ left l.line l.list.items l.i)

abbrev pub decreases-loop-i : goal.decreases-loop-i
decreases-loop-i l = length l.line - l.i
