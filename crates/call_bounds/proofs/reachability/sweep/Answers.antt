use Rattle.std.proofs.Common.{◌+◌, sym, subst, true, if◌then◌else◌}
use Rattle.call_bounds.specs.Reachability.{Swept}
use Rattle.call_bounds.proofs.ReachabilityLaws.{sweep-function, sweep-start}
use Rattle.call_bounds.proofs.reachability.sweep.Goals as goal
use Rattle.call_bounds.proofs.reachability.sweep.Goals.{then-more, else-more}

pub loop-function-init : goal.loop-function-init
loop-function-init c = sweep-start c.args.count c.args.table.now c.args.met.now.items c.requires.met

pub loop-function-preserved : goal.loop-function-preserved
loop-function-preserved c =
    let n = c.args.count in
    let t = c.args.table.now in
    let k = c.loop-function.function in
    let old = c.args.met.now.items in
    let new = c.spread_met-more.new.met.items in
    let y = sweep-function n t k old c.loop-function.met.items new c.loop-function.changed
    c.spread_met-more.result c.loop-function.invariant c.spread_met-more.ensures in
    elim c.if-more.branch [
      | then-more w ↦
          subst (λ b. Swept n t (k + 1) old new b) (sym w.changed-is) (subst (λ m.
          Swept n t (k + 1) old new (if m then true else c.loop-function.changed)) w.if-more.true y)
      | else-more w ↦
          subst (λ b. Swept n t (k + 1) old new b) (sym w.changed-is) (subst (λ m.
          Swept n t (k + 1) old new (if m then true else c.loop-function.changed))
          w.if-more.false y)
    ]
