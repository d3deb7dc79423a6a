use Rattle.std.proofs.Common.{◌≡◌, ◌-◌, ◌/◌, List, Bool, arith, refl, subst, sym}
use Rattle.call_bounds.specs.Summaries.{AreReturns}
use Rattle.call_bounds.proofs.EachLaws.{returns-more}
use Rattle.call_bounds.proofs.summary.returns.Goals as goal

pub loop-index-init : goal.loop-index-init
loop-index-init c =
    subst (λ (items : List Bool). AreReturns c.args.tree.now c.args.number c.args.section 0 items)
    (sym c.new-returns.ensures.items) (record { count = refl; each = λ k lt. absurd (omega arith) })

pub loop-index-preserved : goal.loop-index-preserved
loop-index-preserved c =
    returns-more c.args.tree.now c.args.number c.args.section c.loop-index.index
    c.loop-index.returns.items c.push.new.self.items c.is_return.result c.in_ok-push.ensures.items
    c.loop-index.invariant c.is_return.ensures

pub returns : goal.returns
returns c =
    let e : c.loop-index.index ≡ (c.args.section.to - c.args.section.from) / 4 =
    omega (arith, c.loop-index.auto.index-end, c.loop-index-test.false) in
    subst (λ n. AreReturns c.args.tree.now c.args.number c.args.section n
    c.loop-index.returns.items) e c.loop-index.invariant
