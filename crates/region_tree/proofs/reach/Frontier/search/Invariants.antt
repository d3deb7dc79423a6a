use Rattle.std.proofs.Common.{◌+◌, ◌*◌, length}
use Rattle.region_tree.specs.Search.{IsGathered, unmet_count}
use Rattle.region_tree.proofs.reach.Frontier.search.Given as goal

abbrev pub invariant-loop-index : goal.invariant-loop-index
invariant-loop-index l = IsGathered l.draft (λ k. ⊥) l.self.met.items l.self.todo.items

abbrev pub decreases-loop-index : goal.decreases-loop-index
decreases-loop-index l = 2 * unmet_count l.self.met.items + length l.self.todo.items
