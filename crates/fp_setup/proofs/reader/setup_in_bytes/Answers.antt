use Rattle.std.proofs.Common.{rules}
use Rattle.fp_setup.specs.Setup.{setup}
use Rattle.fp_setup.proofs.reader.setup_in_bytes.Goals as goal

pub returns-clause-ok : goal.returns-clause-ok
unfolding setup
returns-clause-ok c = search rules

pub returns-clause-refused : goal.returns-clause-refused
unfolding setup
returns-clause-refused c = search rules

pub returns-in_err-table-clause-refused : goal.returns-in_err-table-clause-refused
unfolding setup
returns-in_err-table-clause-refused c = search rules

pub returns-then-bytes-gt-MOST_SETUP_BYTES-clause-refused :
    goal.returns-then-bytes-gt-MOST_SETUP_BYTES-clause-refused
unfolding setup
returns-then-bytes-gt-MOST_SETUP_BYTES-clause-refused c = search rules
