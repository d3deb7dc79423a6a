-- Whether a branch, a load or a store is frequent.
use Rattle.std.proofs.Common.{sym, ◌∙◌}
use Rattle.core_model.specs.Issue.{execute_untrapped}
use Rattle.hart_exec.proofs.Frequent.{branch_frequent, load_frequent, store_frequent}
use Rattle.hart_exec.proofs.execute.execute_untrapped.Goals as goal

pub returns-in-Branch-clause-frequent : goal.returns-in-Branch-clause-frequent
unfolding execute_untrapped
returns-in-Branch-clause-frequent g c =
    λ common. rw c.in-Branch.is (sym (branch_frequent _ _ _ _ _))

pub returns-in-Load-clause-frequent : goal.returns-in-Load-clause-frequent
unfolding execute_untrapped
returns-in-Load-clause-frequent g c =
    λ common. c.load.ensures.frequent common ∙ rw c.in-Load.is (sym (load_frequent _ _ _ _ _))

pub returns-in-Store-clause-frequent : goal.returns-in-Store-clause-frequent
unfolding execute_untrapped
returns-in-Store-clause-frequent g c =
    λ common. c.store.ensures.frequent common
    ∙ rw c.in-Store.is (sym (store_frequent _ _ _ _ _ _ _))
