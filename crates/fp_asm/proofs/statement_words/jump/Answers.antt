use Rattle.std.proofs.Common.{rules}
use Rattle.fp_asm.specs.Second.{jump}
use Rattle.fp_asm.proofs.Offsets.{offset_even}
use Rattle.fp_asm.proofs.statement_words.jump.Goals as goal

pub returns-clause-offset_to : goal.returns-clause-offset_to
unfolding jump
returns-clause-offset_to c = search rules

pub returns-then-off-low-clause-offset_to : goal.returns-then-off-low-clause-offset_to
unfolding jump
returns-then-off-low-clause-offset_to c = search rules

pub returns-then-to-ne0-clause-offset_to : goal.returns-then-to-ne0-clause-offset_to
unfolding jump
returns-then-to-ne0-clause-offset_to c = search rules

pub returns-then-off-low-clause-within : goal.returns-then-off-low-clause-within
returns-then-off-low-clause-within c = tt

pub returns-then-off-low-clause-even : goal.returns-then-off-low-clause-even
returns-then-off-low-clause-even c = tt

pub returns-then-to-ne0-clause-within : goal.returns-then-to-ne0-clause-within
returns-then-to-ne0-clause-within c = tt

pub returns-then-to-ne0-clause-even : goal.returns-then-to-ne0-clause-even
returns-then-to-ne0-clause-even c = tt

pub returns-clause-within : goal.returns-clause-within
returns-clause-within c = search rules

pub returns-clause-even : goal.returns-clause-even
returns-clause-even c = search (rules, offset_even)
