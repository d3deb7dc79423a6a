use Rattle.std.proofs.Common.{rules}
use Rattle.fp_asm.proofs.addresses.is_inside.Goals as goal

pub returns-then-a-lt-SMALL_SIZE : goal.returns-then-a-lt-SMALL_SIZE
returns-then-a-lt-SMALL_SIZE c = search rules
