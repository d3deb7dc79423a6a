use Rattle.std.proofs.Common.{rules, arith}
use Rattle.fp_lex.proofs.Laws.{tokens_law}
use Rattle.fp_lex.proofs.lexer.tokens.Goals as goal

pub returns-clause-texts : goal.returns-clause-texts
returns-clause-texts c = (tokens_law c.args.line.now c.from_vec.result (search rules)).texts

pub returns-clause-rising : goal.returns-clause-rising
returns-clause-rising c = (tokens_law c.args.line.now c.from_vec.result (search rules)).rising

pub returns-clause-few : goal.returns-clause-few
returns-clause-few c =
    omega (arith, (tokens_law c.args.line.now c.from_vec.result (search rules)).few (omega arith))
