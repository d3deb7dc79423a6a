use Rattle.std.proofs.Common.{rules}
use Rattle.fp_setup.specs.FaultOrder.{loop_table_fault}
use Rattle.fp_setup.specs.SetupOfTables.{loop_of}
use Rattle.fp_setup.proofs.LoopTable.{is_loop, last_inside}
use Rattle.fp_setup.proofs.loop_rows.loop_table.Goals as goal

pub returns-clause-rules : goal.returns-clause-rules
returns-clause-rules c =
    is_loop c.args.size _ _ _ (rw c.addresses.ensures at c.in_ok-head.ensures.within)
    (rw c.addresses-2.ensures at c.in_ok-last.ensures.within)
    (rw c.integers.ensures at c.in_ok-limit.ensures.within)

pub returns-clause-inside : goal.returns-clause-inside
returns-clause-inside c =
    last_inside _ _ _ c.requires.low (rw c.addresses-2.ensures at c.in_ok-last.ensures.within)

pub returns-in_err-no_other_key-clause-read : goal.returns-in_err-no_other_key-clause-read
unfolding loop_table_fault
returns-in_err-no_other_key-clause-read c = search rules

pub returns-in_err-head-clause-read : goal.returns-in_err-head-clause-read
unfolding loop_table_fault
returns-in_err-head-clause-read c = search rules

pub returns-in_err-last-clause-read : goal.returns-in_err-last-clause-read
unfolding loop_table_fault
returns-in_err-last-clause-read c = search rules

pub returns-in_err-limit-clause-read : goal.returns-in_err-limit-clause-read
unfolding loop_table_fault
returns-in_err-limit-clause-read c = search rules

pub returns-clause-read : goal.returns-clause-read
unfolding loop_table_fault loop_of
returns-clause-read c = search rules
