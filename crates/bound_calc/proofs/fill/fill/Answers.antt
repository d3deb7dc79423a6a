use Rattle.std.proofs.Common.{◌+◌, arith, sym, subst}
use Rattle.std.proofs.lemmas.List.{with_items_is}
use Rattle.bound_calc.specs.Propagation.{IsFilled, over, costs_on}
use Rattle.bound_calc.proofs.FillLaws.{filled-down}
use Rattle.bound_calc.proofs.fill.fill.Goals as goal

pub fill_word-requires-clause-filled : goal.fill_word-requires-clause-filled
fill_word-requires-clause-filled c =
    let t = c.args.tree.now in
    let k = c.index_below-index.result in
    subst (λ powers. IsFilled (over t c.args.steps.now (costs_on c.args.word_costs.now)) t (k
    + 1) powers)
    (sym c.deref_mut.ensures.value) (filled-down t c.args.steps.now (costs_on c.args.word_costs.now)
    k c.loop-index.index c.loop-index.powers.items c.index_below-index.ensures.below
    c.index_below-index.ensures.next c.loop-index.invariant.filled)

pub loop-index-preserved : goal.loop-index-preserved
loop-index-preserved c = record {
  top = omega (arith, c.loop-index.invariant.top);
  filled =
      (let new = c.fill_word.new.powers in
      subst (λ powers. IsFilled (over c.args.tree.now c.args.steps.now (costs_on
      c.args.word_costs.now))
      c.args.tree.now c.index_below-index.result powers) (sym (with_items_is c.loop-index.powers new
      (omega (arith, c.fill_word.auto.powers, c.deref_mut.ensures.len))))
      c.in_ok-fill_word.ensures.filled);
  room = c.in_ok-fill_word.ensures.room;
}
