use Rattle.std.proofs.Common.{rules}
use Rattle.fp_io.proofs.real.OutSinkSink.put.Goals as goal

pub returns-then-is_err-clause-after : goal.returns-then-is_err-clause-after
returns-then-is_err-clause-after g c = search rules
