use Rattle.std.proofs.Common.{sym, subst, refl}
use Rattle.bound_calc.specs.Propagation.{EndedHere}
use Rattle.bound_calc.proofs.PassLaws.{hops-positions, with-steps}
use Rattle.bound_calc.proofs.returns.end.Goals as goal

pub join_advanced-requires : goal.join_advanced-requires
join_advanced-requires c = record {
  positions =
      hops-positions c.args.steps.now 3 c.hops.result.now.hops c.hops.ensures.frame
      c.hops.ensures.hops;
}

pub returns-then-is_end : goal.returns-then-is_end
returns-then-is_end c =
    subst (λ b. EndedHere c.args.steps.now b c.args.here.now c.args.back.now
    c.join_advanced.new.onto)
    (sym c.if-is_end.true)
    (record {
      other = λ e. cc;
      there = λ e. with-steps c.hops.ensures.hops
          c.join_advanced.ensures;
    })

pub returns-else-is_end : goal.returns-else-is_end
returns-else-is_end c =
    subst (λ b. EndedHere c.args.steps.now b c.args.here.now c.args.back.now c.args.back.now)
    (sym c.if-is_end.false) (record { other = λ e. refl; there = λ e. cc })
