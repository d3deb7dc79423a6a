use Rattle.std.proofs.Common.{◌∙◌, arith, inl, inr, refl}
use Rattle.call_bounds.proofs.ReachabilityLaws.{mark-at}
use Rattle.call_bounds.proofs.reachability.spread_met.Goals as goal

pub returns-then-not-index : goal.returns-then-not-index
returns-then-not-index c = inl (
  mark-at c.args.met.now.items c.args.function c.index.result.now
      (omega (arith, c.requires.function, c.requires.met)) c.index.ensures ∙ c.if-not-index.true,
  refl,
  refl,
)

pub returns : goal.returns
returns c = inr (
  mark-at c.args.met.now.items c.args.function c.index.result.now
      (omega (arith, c.requires.function, c.requires.met)) c.index.ensures ∙ c.if-not-index.false,
  c.spread.ensures,
)
