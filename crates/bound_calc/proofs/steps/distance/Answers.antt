use Rattle.std.proofs.Common.{◌≡◌, ◌+◌, ◌*◌, ◌%◌, ◌<◌, ◌⊎◌, inl, inr}
use Rattle.std.proofs.Common.{arith, length, subst, sym, false, true, ◌∙◌}
use Rattle.slot_table.specs.Frame.{frame}
use Rattle.region_tree.specs.Walk.{IsOwn}
use Rattle.bound_calc.specs.Bound.{positions}
use Rattle.bound_calc.proofs.Accepted.{frame-short}
use Rattle.bound_calc.proofs.StepLaws.{not_yet, far}
use Rattle.bound_calc.proofs.steps.distance.Goals as goal
use Rattle.bound_calc.proofs.steps.distance.Goals.{In-loop-cycles}

pub overflow_add-position : goal.overflow_add-position
overflow_add-position c =
    let w = c.requires.own.within in
    let f = far c.args.lag c.loop-cycles.cycles (length (frame c.args.slots.now)) c.requires.lag
    (frame-short c.args.slots.now) c.loop-cycles.invariant.far in
    omega (arith, frame-short c.args.slots.now)

pub overflow_add-cycles : goal.overflow_add-cycles
overflow_add-cycles c =
    let f = far c.args.lag c.loop-cycles.cycles (length (frame c.args.slots.now)) c.requires.lag
    (frame-short c.args.slots.now) c.loop-cycles.invariant.far in omega arith

-- this cycle is no turn of the thread
none : (c : In-loop-cycles) → IsOwn (positions c.args.slots.now c.args.thread)
    ((c.args.position + c.loop-cycles.cycles) % length (frame c.args.slots.now)) → ⊥
none c o = let z : false ≡ true = sym c.loop-cycles-test.true ∙ c.is_own.ensures.1 o in cc

pub loop-cycles-smaller : goal.loop-cycles-smaller
loop-cycles-smaller c =
    let lt : c.loop-cycles.cycles < c.args.lag * length (frame c.args.slots.now) =
    not_yet (positions c.args.slots.now c.args.thread) c.args.position
    c.args.lag c.loop-cycles.cycles c.requires.own c.loop-cycles.invariant.far
    (none (goal.at.loop-cycles-smaller c).In-loop-cycles) in
    omega arith

pub loop-cycles-preserved : goal.loop-cycles-preserved
loop-cycles-preserved c =
    let never = none (goal.at.loop-cycles-preserved c).In-loop-cycles in
    let lt : c.loop-cycles.cycles < c.args.lag * length (frame c.args.slots.now) =
    not_yet (positions c.args.slots.now c.args.thread) c.args.position c.args.lag
    c.loop-cycles.cycles c.requires.own c.loop-cycles.invariant.far never in
    record {
      late = omega (arith, c.loop-cycles.invariant.late);
      far = omega arith;
      first =
          λ e a b o. elim (let z : (e < c.loop-cycles.cycles)
          ⊎ (e ≡ c.loop-cycles.cycles) = grind arith in z) [
            | inl h ↦ c.loop-cycles.invariant.first e a h o
            | inr h ↦
                never (subst (λ n. IsOwn (positions c.args.slots.now c.args.thread)
                ((c.args.position + n) % length (frame c.args.slots.now))) h o)
          ];
    }

pub returns-clause-far : goal.returns-clause-far
returns-clause-far c =
    far c.args.lag c.loop-cycles.cycles (length (frame c.args.slots.now)) c.requires.lag
    (frame-short c.args.slots.now) c.loop-cycles.invariant.far
