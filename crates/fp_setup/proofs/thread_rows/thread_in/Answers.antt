use Rattle.std.proofs.Common.{rules}
use Rattle.fp_setup.proofs.thread_rows.thread_in.Goals as goal

pub returns-in-None-clause-read : goal.returns-in-None-clause-read
returns-in-None-clause-read c = search rules

pub returns-in-Some-clause-read : goal.returns-in-Some-clause-read
returns-in-Some-clause-read c = search rules
