use Rattle.std.proofs.lemmas.Grind.{common_steps}
use Rattle.std.proofs.Common.{rules, arith}
use Rattle.fp_setup.specs.Values.{pair}
use Rattle.fp_setup.proofs.input_rows.two_integers.Goals as goal

pub returns : goal.returns
unfolding pair
returns c = grind (arith, common_steps)

pub returns-in_err-as_integer : goal.returns-in_err-as_integer
unfolding pair
returns-in_err-as_integer c = grind (arith, common_steps)

pub returns-in_err-as_integer-2 : goal.returns-in_err-as_integer-2
unfolding pair
returns-in_err-as_integer-2 c = grind (arith, common_steps)

pub returns-in_err-items : goal.returns-in_err-items
unfolding pair
returns-in_err-items c = search rules

pub returns-then-items-ne2 : goal.returns-then-items-ne2
unfolding pair
returns-then-items-ne2 c = grind (arith, common_steps)
