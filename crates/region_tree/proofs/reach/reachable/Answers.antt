use Rattle.std.proofs.Common.{Some, ◌∙◌, subst}
use Rattle.region_tree.specs.Search.{IsVisited}
use Rattle.region_tree.proofs.ReachLaws.{gather-start}
use Rattle.region_tree.proofs.reach.reachable.Goals as goal

pub search-requires-clause-gathered : goal.search-requires-clause-gathered
search-requires-clause-gathered c =
    gather-start c.args.draft.now c.in_ok-frontier.frontier.met.items
    c.visit.new.self.met.items c.visit.new.self.todo.items
    (c.in_ok-frontier.ensures.0 ∙ c.len.ensures.value) c.in_ok-frontier.ensures.1
    (subst (λ d. IsVisited (Some 0) c.in_ok-frontier.frontier.met.items c.visit.new.self.met.items d
    c.visit.new.self.todo.items) c.in_ok-frontier.ensures.2 c.in_ok-visit.ensures)
