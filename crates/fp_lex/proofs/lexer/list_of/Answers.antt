use Rattle.std.proofs.Common.{arith}
use Rattle.fp_lex.proofs.Along.{left_start, left_blank, left_token, left_end, left_hash, left_fault}
use Rattle.fp_lex.specs.Tokens.{tokens_of}
use Rattle.fp_lex.proofs.lexer.list_of.Goals as goal

pub loop-i-init : goal.loop-i-init
loop-i-init c = grind (arith, left_start)

pub loop-i-preserved-then-is_blank : goal.loop-i-preserved-then-is_blank
loop-i-preserved-then-is_blank c = grind (arith, left_blank)

pub loop-i-preserved : goal.loop-i-preserved
loop-i-preserved c = grind (arith, left_token)

pub returns-clause-tokens : goal.returns-clause-tokens
unfolding tokens_of
returns-clause-tokens c = grind (arith, left_end, left_hash)

pub returns-in_err-token-clause-refused : goal.returns-in_err-token-clause-refused
unfolding tokens_of
returns-in_err-token-clause-refused c = grind (arith, left_fault)
