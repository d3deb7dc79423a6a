use Rattle.std.proofs.Common.{rules, arith}
use Rattle.std.proofs.lemmas.Grind.{common_steps}
use Rattle.rv_exec.proofs.Bitwise.{bitwise_word, xor_is_bitwise, or_is_bitwise, and_is_bitwise}
use Rattle.rv_exec.specs.Alu.{alu_result}
use Rattle.rv_exec.proofs.alu.compute.Goals as goal

pub returns-in-Xor : goal.returns-in-Xor
unfolding alu_result
returns-in-Xor c =
    rw c.in-Xor.is (bitwise_word _ _ xor_is_bitwise c.args.a c.args.b (search rules) (search rules))

pub returns-in-Or : goal.returns-in-Or
unfolding alu_result
returns-in-Or c =
    rw c.in-Or.is (bitwise_word _ _ or_is_bitwise c.args.a c.args.b (search rules) (search rules))

pub returns-in-And : goal.returns-in-And
unfolding alu_result
returns-in-And c =
    rw c.in-And.is (bitwise_word _ _ and_is_bitwise c.args.a c.args.b (search rules) (search rules))

pub returns-in-Sra : goal.returns-in-Sra
unfolding alu_result
returns-in-Sra c = grind (arith, common_steps)
