use Rattle.std.proofs.lemmas.Grind.{common_steps}
use Rattle.std.proofs.Common.{rules, arith}
use Rattle.fp_setup.specs.Checks.{list_check}
use Rattle.fp_setup.proofs.input_rows.inputs.Goals as goal

pub returns-clause-read : goal.returns-clause-read
unfolding list_check
returns-clause-read c = grind (arith, common_steps)

pub returns-in_default-clause-read : goal.returns-in_default-clause-read
unfolding list_check
returns-in_default-clause-read c = search rules

pub returns-then-items-gt-MOST_INPUTS-clause-read :
    goal.returns-then-items-gt-MOST_INPUTS-clause-read
unfolding list_check
returns-then-items-gt-MOST_INPUTS-clause-read c = grind (arith, common_steps)
