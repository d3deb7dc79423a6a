use Rattle.fp_io.proofs.ListedCalls.{files_with}
use Rattle.fp_io.proofs.memory_files.MemFiles.fail_at.Goals as goal

pub invariant_of-self-2 : goal.invariant_of-self-2
invariant_of-self-2 c =
    rw c.in_ok-push.ensures.items (files_with _ _ _ _ c.requires c.self.invariant)

pub returns-clause-few : goal.returns-clause-few
returns-clause-few c = (invariant_of-self-2 c).few
