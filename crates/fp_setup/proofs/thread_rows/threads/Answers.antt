use Rattle.std.proofs.lemmas.Grind.{common_steps}
use Rattle.std.proofs.Common.{rules, arith}
use Rattle.fp_setup.specs.Checks.{list_check}
use Rattle.fp_setup.specs.FaultOrder.{threads_fault}
use Rattle.fp_setup.proofs.thread_rows.threads.Goals as goal

pub returns-clause-read : goal.returns-clause-read
unfolding list_check threads_fault
returns-clause-read c = grind (arith, common_steps)

pub returns-in_default-clause-read : goal.returns-in_default-clause-read
unfolding list_check threads_fault
returns-in_default-clause-read c = search rules

pub returns-then-items-gt-MOST_ROWS-clause-read : goal.returns-then-items-gt-MOST_ROWS-clause-read
unfolding list_check threads_fault
returns-then-items-gt-MOST_ROWS-clause-read c = grind (arith, common_steps)
