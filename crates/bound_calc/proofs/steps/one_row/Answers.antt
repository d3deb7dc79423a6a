use Rattle.std.proofs.Common.{◌≡◌, arith, sym, ◌∙◌, false, true}
use Rattle.bound_calc.specs.Bound.{positions}
use Rattle.bound_calc.proofs.StepLaws.{own-position, position-own, one-found}
use Rattle.bound_calc.proofs.steps.one_row.Goals as goal
use Rattle.bound_calc.proofs.steps.one_row.Goals.{
  else-position-frame_len-via-then-position-frame_len+else-is_own,
}
use Rattle.bound_calc.proofs.steps.one_row.Goals.{
  else-position-frame_len-via-else-position-frame_len,
}

pub returns-then-is_own-clause-found : goal.returns-then-is_own-clause-found
returns-then-is_own-clause-found c =
    one-found (positions c.args.slots.now c.args.thread) c.args.position c.requires.position
    (own-position (positions c.args.slots.now c.args.thread) c.args.position
    (omega (arith, c.frame_len.ensures)) (c.is_own.ensures.0 c.if-is_own.true))

pub returns-else-position-frame_len-clause-all : goal.returns-else-position-frame_len-clause-all
returns-else-position-frame_len-clause-all c =
    λ q d t. absurd (elim c.else-position-frame_len.branch [
      | else-position-frame_len-via-then-position-frame_len+else-is_own w ↦
          (let z : false ≡ true = sym w.if-is_own.false ∙ w.is_own.ensures.1
          (position-own (positions c.args.slots.now c.args.thread) c.args.position t.0) in cc)
      | else-position-frame_len-via-else-position-frame_len w ↦
          (let s = t.0.within in omega (arith, w.if-position-frame_len.false, c.frame_len.ensures))
    ])
