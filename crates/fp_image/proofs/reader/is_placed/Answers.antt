use Rattle.std.proofs.Common.{rules}
use Rattle.fp_image.proofs.reader.is_placed.Goals as goal

pub returns-then-in_code : goal.returns-then-in_code
returns-then-in_code c = search rules

pub returns-else-in_code : goal.returns-else-in_code
returns-else-in_code c = search rules

pub returns-else-len-gt0 : goal.returns-else-len-gt0
returns-else-len-gt0 c = search rules
