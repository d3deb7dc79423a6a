use Rattle.std.proofs.Common.{◌≡◌, ℕ, ◌+◌, ◌%◌, arith, length, subst, sym, ◌∙◌, false, true}
use Rattle.slot_table.specs.Frame.{frame}
use Rattle.region_tree.specs.Walk.{IsNextTurn}
use Rattle.bound_calc.specs.Bound.{positions}
use Rattle.bound_calc.proofs.StepLaws.{hop-all, hop-found, own-position, position-own}
use Rattle.bound_calc.proofs.steps.hop.Goals as goal
use Rattle.bound_calc.proofs.steps.hop.Goals.{then-position-count-via-then-position-count}
use Rattle.bound_calc.proofs.steps.hop.Goals.{
  then-position-count-via-else-position-count+then-not-is_own,
}

-- the turn, by the count of the frame's positions as it was read
next : (slots thread lag p cost count : ℕ) → count ≡ length (frame slots) →
    IsNextTurn (positions slots thread) lag p cost ((p + cost) % length (frame slots)) →
    IsNextTurn (positions slots thread) lag p cost ((p + cost) % count)
next slots thread lag p cost count e turn =
    subst (λ n. IsNextTurn (positions slots thread) lag p cost ((p + cost) % n)) (sym e) turn

pub returns-then-position-count-clause-all : goal.returns-then-position-count-clause-all
returns-then-position-count-clause-all c = λ d q t. absurd (elim c.then-position-count.branch [
  | then-position-count-via-then-position-count w ↦
      (let s = t.start.within in
      omega (arith, w.if-position-count.true, c.frame_len.ensures, c.from-count.ensures))
  | then-position-count-via-else-position-count+then-not-is_own w ↦
      (let z : false ≡ true = sym w.if-not-is_own.true ∙ w.is_own.ensures.1
      (position-own (positions c.args.slots.now c.args.thread) c.args.position t.start) in cc)
])

pub distance-cost-requires-clause-own : goal.distance-cost-requires-clause-own
distance-cost-requires-clause-own c =
    own-position (positions c.args.slots.now c.args.thread) c.args.position
    (omega (arith, c.frame_len.ensures, c.from-count.ensures))
    (c.is_own.ensures.0 c.if-not-is_own.false)

pub returns-clause-found : goal.returns-clause-found
returns-clause-found c =
    λ d q e. hop-found (positions c.args.slots.now c.args.thread) c.args.lag c.args.position
    c.distance-cost.result ((c.args.position + c.distance-cost.result) % c.from-count.result) d q
    (next c.args.slots.now c.args.thread c.args.lag c.args.position c.distance-cost.result
    c.from-count.result (c.from-count.ensures ∙ c.frame_len.ensures) c.distance-cost.ensures.next) e

pub returns-clause-all : goal.returns-clause-all
returns-clause-all c =
    λ d q t. hop-all (positions c.args.slots.now c.args.thread) c.args.lag c.args.position
    c.distance-cost.result ((c.args.position + c.distance-cost.result) % c.from-count.result) d q
    (next c.args.slots.now c.args.thread c.args.lag c.args.position c.distance-cost.result
    c.from-count.result (c.from-count.ensures ∙ c.frame_len.ensures) c.distance-cost.ensures.next) t
