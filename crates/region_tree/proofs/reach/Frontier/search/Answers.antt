use Rattle.std.proofs.Common.{◌≡◌, true, arith, sym, subst, Contains}
use Rattle.std.proofs.lemmas.List.Elements.{Contains-push}
use Rattle.region_tree.specs.Search.{is_met}
use Rattle.region_tree.proofs.ReachLaws.{gather-pop, gather-end, met-within, empty}
use Rattle.region_tree.proofs.reach.Frontier.search.Goals as goal
use Rattle.region_tree.proofs.reach.Frontier.search.Goals.{In-Some}

-- the pending word is marked
met : (c : In-Some) → is_met c.loop-index.self.met.items c.in-Some.index ≡ true
met c =
    c.loop-index.invariant.known c.in-Some.index (subst (λ l. Contains l c.in-Some.index)
    (sym c.in-Some.ensures.items) (Contains-push c.pop.new.self.items c.in-Some.index))

pub follow-requires-clause-within : goal.follow-requires-clause-within
follow-requires-clause-within c =
    let z = met-within c.loop-index.self.met.items c.in-Some.index
    (met (goal.at.follow-requires-clause-within c).In-Some) in
    omega (arith, c.loop-index.invariant.count)

pub follow-requires-clause-reached : goal.follow-requires-clause-reached
follow-requires-clause-reached c =
    c.loop-index.invariant.sound c.in-Some.index
    (met (goal.at.follow-requires-clause-reached c).In-Some)

pub follow-requires-clause-gathered : goal.follow-requires-clause-gathered
follow-requires-clause-gathered c =
    gather-pop c.args.draft.now c.loop-index.self.met.items c.loop-index.self.todo.items
    c.pop.new.self.items c.in-Some.index c.in-Some.ensures.items c.loop-index.invariant

pub returns : goal.returns
returns c =
    gather-end c.args.draft.now c.loop-index.self.met.items
    c.loop-index.self.todo.items c.requires.rules (empty c.loop-index.self.todo.items
    (omega (arith, c.loop-index.self.todo.ok.0, c.in_default.ensures.cases.0)))
    c.loop-index.invariant
