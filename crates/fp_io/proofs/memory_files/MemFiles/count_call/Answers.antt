use Rattle.std.proofs.Common.{arith, rules}
use Rattle.std.proofs.lemmas.Grind.{common_steps}
use Rattle.fp_io.proofs.ListedCalls.{files_after_fault, files_after_call}
use Rattle.fp_io.proofs.memory_files.MemFiles.count_call.Goals as goal

pub invariant_of-self : goal.invariant_of-self
invariant_of-self c =
    rw c.saturating_add-self-inside-then-fails.ensures
    (files_after_fault _ _ _ _ c.saturating_add-self-inside.ensures (search rules) c.self.invariant)

pub returns-then-fails-clause-few : goal.returns-then-fails-clause-few
returns-then-fails-clause-few c = (invariant_of-self c).few

pub invariant_of-self-else-fails : goal.invariant_of-self-else-fails
invariant_of-self-else-fails c =
    files_after_call _ _ _ _ c.saturating_add-self-inside.ensures (omega arith) c.self.invariant

pub returns-else-fails-clause-few : goal.returns-else-fails-clause-few
returns-else-fails-clause-few c = (invariant_of-self-else-fails c).few

pub returns-then-fails-clause-fails : goal.returns-then-fails-clause-fails
returns-then-fails-clause-fails c = grind (arith, common_steps)

pub returns-then-fails-clause-after : goal.returns-then-fails-clause-after
returns-then-fails-clause-after c = grind (arith, common_steps)

pub returns-else-fails-clause-fails : goal.returns-else-fails-clause-fails
returns-else-fails-clause-fails c = grind (arith, common_steps)

pub returns-else-fails-clause-after : goal.returns-else-fails-clause-after
returns-else-fails-clause-after c = grind (arith, common_steps)
