use Rattle.std.proofs.Common.{rules}
use Rattle.trace_print.proofs.digits.hex_byte.Goals as goal

pub returns-else-digit-lt10-clause-digit : goal.returns-else-digit-lt10-clause-digit
returns-else-digit-lt10-clause-digit c = search rules
