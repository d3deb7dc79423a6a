use Rattle.std.proofs.Common.{◌≡◌, ◌+◌, ◌<◌, arith, inl, sym, subst}
use Rattle.call_bounds.specs.Listing.{function_count, rank_at}
use Rattle.call_bounds.specs.Summaries.{AreKnown, AreSummaries, IsAdded}
use Rattle.call_bounds.specs.declared.summary.Summaries.{Summaries}
use Rattle.call_bounds.proofs.DoneLaws.{Before, before-all, before-first}
use Rattle.call_bounds.proofs.DoneLaws.{before-more, before-skip, knows-callees}
use Rattle.call_bounds.proofs.summary.summarise_rank.Goals as goal
use Rattle.call_bounds.proofs.summary.summarise_rank.Goals.{then-ranks-number+in_ok-summarise}
use Rattle.call_bounds.proofs.summary.summarise_rank.Goals.{else-ranks-number}

pub loop-number-init : goal.loop-number-init
loop-number-init c = record {
  some = omega arith;
  all = c.requires.done;
  known =
      before-first c.args.tree.now c.args.steps.now c.args.ranks.now c.args.rank
      c.args.done.now.through.items c.args.done.now.deep.items c.requires.below;
}

pub summarise-requires-clause-known : goal.summarise-requires-clause-known
summarise-requires-clause-known c =
    λ reached.
    let ranks = c.args.ranks.now in
    let n = c.loop-number.number in
    let here : rank_at ranks n ≡ c.args.rank = c.if-ranks-number.true in
    let within : n < function_count c.args.tree.now =
    omega (arith, c.loop-number-test.true, c.requires.ranks.count) in
    knows-callees c.args.tree.now c.args.steps.now ranks n (Before ranks c.args.rank n)
    c.loop-number.done.through.items c.loop-number.done.deep.items c.requires.ranks within
    (λ k lower. inl (subst (λ r. rank_at ranks k < r) here lower))
    c.loop-number.invariant.known reached

pub loop-number-preserved : goal.loop-number-preserved
loop-number-preserved c = elim c.if-ranks-number.branch [
  | then-ranks-number+in_ok-summarise w ↦
      subst Next (sym w.done-is) (more w.summarise.new.done w.in_ok-summarise.ensures)
  | else-ranks-number w ↦ subst Next (sym w.done-is) (skip w.if-ranks-number.false)
]
  where
    Next : Summaries → Type 0
    Next done = record {
      some : 0 < c.loop-number.number + 1;
      all : AreSummaries c.args.tree.now c.args.steps.now done.through.items done.deep.items;
      known : AreKnown c.args.tree.now c.args.steps.now (Before c.args.ranks.now c.args.rank
          (c.loop-number.number + 1)) done.through.items done.deep.items;
    }

    more : (done : Summaries) → IsAdded c.args.tree.now c.args.steps.now c.loop-number.number
        c.loop-number.done.through.items c.loop-number.done.deep.items done.through.items
        done.deep.items → Next done
    more done added = record {
      some = omega arith;
      all = added.all;
      known =
          before-more c.args.tree.now c.args.steps.now c.args.ranks.now c.args.rank
          c.loop-number.number c.loop-number.done.through.items c.loop-number.done.deep.items
          done.through.items done.deep.items c.loop-number.invariant.known added;
    }

    skip : (rank_at c.args.ranks.now c.loop-number.number ≡ c.args.rank → ⊥) →
        Next c.loop-number.done
    skip other = record {
      some = omega arith;
      all = c.loop-number.invariant.all;
      known =
          before-skip c.args.tree.now c.args.steps.now c.args.ranks.now c.args.rank
          c.loop-number.number c.loop-number.done.through.items c.loop-number.done.deep.items other
          c.loop-number.invariant.known;
    }

pub returns-clause-known : goal.returns-clause-known
returns-clause-known c =
    before-all c.args.tree.now c.args.steps.now c.args.ranks.now c.args.rank
    c.loop-number.number c.loop-number.done.through.items c.loop-number.done.deep.items
    (omega (arith, c.loop-number-test.false, c.requires.ranks.count)) c.loop-number.invariant.known

pub offset_bounds-ranks-number : goal.offset_bounds-ranks-number
offset_bounds-ranks-number c =
    omega
    (arith, c.loop-number-test.true, c.requires.ranks.count, c.requires.done.listing.routines.few)

pub bounds-ranks-number : goal.bounds-ranks-number
bounds-ranks-number c = c.loop-number-test.true

pub summarise-requires-clause-routine : goal.summarise-requires-clause-routine
summarise-requires-clause-routine c = c.loop-number.invariant.some

pub summarise-requires-clause-number : goal.summarise-requires-clause-number
summarise-requires-clause-number c = omega (arith, c.loop-number-test.true, c.requires.ranks.count)

pub summarise-requires-clause-done : goal.summarise-requires-clause-done
summarise-requires-clause-done c = c.loop-number.invariant.all

pub returns-clause-done : goal.returns-clause-done
returns-clause-done c = c.loop-number.invariant.all
