use Rattle.std.proofs.Common.{rules}
use Rattle.region_tree.proofs.ReachLaws.{visited}
use Rattle.region_tree.proofs.reach.Frontier.visit.Goals as goal

pub returns : goal.returns
returns c =
    visited c.args.index c.in-Some.index c.args.self.now.met.items c.args.self.now.todo.items
    c.push.new.self.items c.in-Some.is (search rules) (search rules) (search rules)
