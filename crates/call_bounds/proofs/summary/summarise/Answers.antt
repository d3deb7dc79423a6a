use Rattle.std.proofs.Common.{refl}
use Rattle.call_bounds.proofs.DoneLaws.{added, added-none}
use Rattle.call_bounds.proofs.summary.summarise.Goals as goal

pub returns-in_default : goal.returns-in_default
returns-in_default c =
    added-none c.args.tree.now c.args.steps.now c.args.number c.args.done.now.through.items
    c.args.done.now.deep.items c.requires.done c.in_default.ensures

pub summary_of-requires-clause-known : goal.summary_of-requires-clause-known
summary_of-requires-clause-known c = c.requires.known c.in-Some.ensures.0

pub returns : goal.returns
returns c =
    added c.args.tree.now c.args.steps.now c.args.number c.args.done.now.through.items
    c.args.done.now.deep.items _ _ c.in_ok-summary.summary.through c.in_ok-summary.summary.deep
    c.requires.number c.requires.done refl refl c.in_ok-summary.ensures c.requires.routine
