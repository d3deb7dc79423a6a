use Rattle.std.proofs.Common.{nat_le, rules, tests}
use Rattle.std.proofs.lemmas.Iterator.Adapters.{YieldsList-from_rev_slice}
use Rattle.std.proofs.lemmas.Iterator.Search.{find_from_yields_List}
use Rattle.fp_ports.proofs.feeds.newest.Goals as goal

pub returns : goal.returns
returns c =
    find_from_yields_List (λ feed. nat_le feed.at c.args.at) _ _ _ c.find.ensures.ran
    (YieldsList-from_rev_slice c.args.fed.now (search rules)) (λ x b q k. search (rules, tests))
