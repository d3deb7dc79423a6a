use Rattle.std.proofs.Common.{nat_le, rules, tests, reverse}
use Rattle.std.proofs.lemmas.Iterator.Adapters.{YieldsList-from_rev_slice}
use Rattle.std.proofs.lemmas.Iterator.Search.{position_from_yields_List}
use Rattle.fp_ports.proofs.KeptLemmas.{kept-none, kept-some}
use Rattle.fp_ports.proofs.feeds.count_unseen.Goals as goal

pub returns-in-Some-clause-kept : goal.returns-in-Some-clause-kept
returns-in-Some-clause-kept c =
    kept-some c.args.fed.now c.args.before c.in-Some.newer c.position.result
    (position_from_yields_List (λ feed. nat_le feed.at c.args.before) _ _ c.position.result
    c.position.ensures.ran (YieldsList-from_rev_slice c.args.fed.now (search rules))
    (λ x b q k. search (rules, tests))) c.in-Some.is

pub returns-in-None-clause-kept : goal.returns-in-None-clause-kept
returns-in-None-clause-kept c =
    kept-none (reverse c.args.fed.now) c.args.before c.position.result
    (position_from_yields_List (λ feed. nat_le feed.at c.args.before) _ _ c.position.result
    c.position.ensures.ran (YieldsList-from_rev_slice c.args.fed.now (search rules))
    (λ x b q k. search (rules, tests))) c.in-None.is
