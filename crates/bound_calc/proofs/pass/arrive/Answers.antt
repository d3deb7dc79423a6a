use Rattle.std.proofs.Common.{ap, length-set, subst, sym}
use Rattle.std.specs.Option.{option_map}
use Rattle.bound_calc.specs.Best.{Either, In, IsBest, Then}
use Rattle.bound_calc.specs.Hops.{Hops}
use Rattle.bound_calc.specs.Matrices.{entry}
use Rattle.bound_calc.specs.Propagation.{IsThrough, abstract_frontier}
use Rattle.bound_calc.proofs.PassLaws.{joined-ahead, read-power, waits-set}
use Rattle.bound_calc.proofs.pass.arrive.Goals as goal

pub returns : goal.returns
returns c =
    let old = c.args.frontier.now in
    let k = c.args.index in
    record {
      count = length-set old.waiting.items k c.take.new.waiting;
      others = λ w ne. waits-set old.waiting.items k w c.take.new.waiting ne;
      joined = c.join_advanced.new.onto;
      best =
          joined-ahead (abstract_frontier old) k c.in_ok-here.here.value c.deref.result.now
          c.join_advanced.new.onto _ (read-power old.waiting.items k c.index_mut.result.now
          c.index_mut.ensures.value c.requires.index) c.in_ok-here.ensures.taken c.deref.ensures
          (subst (λ m. IsBest (entry c.join_advanced.new.onto)
          (Either (In (entry m)) (Then (In (entry c.deref.result.now)) (Hops old.hops.hops))))
          c.deref_mut.ensures.value c.join_advanced.ensures);
      here =
          subst (λ m. IsThrough (option_map (λ b. b.value) c.args.power.now)
          c.join_advanced.new.onto m)
          (ap (λ b. b.value) (sym c.replace.ensures.after))
          (subst (λ m. IsThrough (option_map (λ b. b.value) c.args.power.now) m
          c.apply_rounds.new.here) c.deref_mut-2.ensures.value c.apply_rounds.ensures);
    }
