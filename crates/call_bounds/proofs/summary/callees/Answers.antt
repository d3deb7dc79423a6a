use Rattle.std.proofs.Common.{◌≡◌, ◌-◌, ◌/◌, List, Option, ℕ, arith, refl, subst, sym}
use Rattle.call_bounds.specs.Summaries.{AreCallees}
use Rattle.call_bounds.proofs.EachLaws.{callees-more}
use Rattle.call_bounds.proofs.summary.callees.Goals as goal

pub loop-index-init : goal.loop-index-init
loop-index-init c =
    subst (λ (items : List (Option ℕ)). AreCallees c.args.tree.now c.args.section 0 items)
    (sym c.new-callees.ensures.items) (record { count = refl; each = λ k lt. absurd (omega arith) })

pub loop-index-preserved : goal.loop-index-preserved
loop-index-preserved c =
    callees-more c.args.tree.now c.args.section c.loop-index.index c.loop-index.callees.items
    c.push.new.self.items c.called.result c.in_ok-push.ensures.items c.loop-index.invariant
    c.called.ensures

pub returns : goal.returns
returns c =
    let e : c.loop-index.index ≡ (c.args.section.to - c.args.section.from) / 4 =
    omega (arith, c.loop-index.auto.index-end, c.loop-index-test.false) in
    subst (λ n. AreCallees c.args.tree.now c.args.section n c.loop-index.callees.items) e
    c.loop-index.invariant
