use Rattle.std.proofs.Common.{rules}
use Rattle.fp_setup.proofs.reader.version.Goals as goal

pub returns-in-None-clause-read : goal.returns-in-None-clause-read
returns-in-None-clause-read c = search rules

pub returns-in-Some-clause-read : goal.returns-in-Some-clause-read
returns-in-Some-clause-read c = search rules

pub returns-in_err-version-clause-read : goal.returns-in_err-version-clause-read
returns-in_err-version-clause-read c = search rules
