use Rattle.std.proofs.Common.{◌-◌, ◌/◌, ◌<◌, arith, ap, subst, sym}
use Rattle.std.proofs.Common.{[], length, None, Contains, IfSome, Some}
use Rattle.bound_calc.specs.Propagation.{IsSpan, over, scope_of}
use Rattle.bound_calc.proofs.PassLaws.{span-body}
use Rattle.bound_calc.proofs.pass.span_of.Goals as goal
use Rattle.bound_calc.proofs.pass.span_of.Goals.{In-Some}

-- the loop is one of the tree
known : (c : In-Some) → Contains c.args.tree.now.loops c.in-Some.j
known c = subst (λ o. IfSome o (λ j. Contains c.args.tree.now.loops j)) c.in-Some.is c.requires

pub overflow_sub-result-in-Some : goal.overflow_sub-result-in-Some
overflow_sub-result-in-Some c =
    let z = c.section-section.ensures.rules.draft.counting c.in-Some.j
    (known (goal.at.overflow_sub-result-in-Some c).In-Some) in
    omega (arith, z.0, ap (λ s. s.from) c.section-section.ensures.value)

pub overflow_sub-result-in-Some-2 : goal.overflow_sub-result-in-Some-2
overflow_sub-result-in-Some-2 c =
    let k = known (goal.at.overflow_sub-result-in-Some-2 c).In-Some in
    let z = c.section-section.ensures.rules.draft.counting c.in-Some.j k in
    let o = (c.section-section.ensures.rules.draft.loops c.in-Some.j k).ordered in
    omega (arith, z.0, o, ap (λ s. s.from) c.section-section.ensures.value)

pub returns-in-Some-clause-span : goal.returns-in-Some-clause-span
returns-in-Some-clause-span c =
    λ s word_costs.
    let t = c.args.tree.now in
    let j = c.in-Some.j in
    subst (λ o. IsSpan t (scope_of (over t s word_costs) o) ((j.head -
    c.section-section.result.from) / 4)
    ((j.last - c.section-section.result.from) / 4)) (sym c.in-Some.is)
    (subst (λ r. IsSpan t (scope_of (over t s word_costs) (Some j)) ((j.head - r.from) / 4)
    ((j.last - r.from) / 4)) (sym c.section-section.ensures.value) (span-body t s word_costs j
    c.section-section.ensures.rules (known (goal.at.returns-in-Some-clause-span c).In-Some)))

pub returns-in-Some-clause-inside : goal.returns-in-Some-clause-inside
returns-in-Some-clause-inside c =
    let t = c.args.tree.now in
    let j = c.in-Some.j in
    let s = span-body t (record { frame = []; thread = 0 }) (λ k. None) j
    c.section-section.ensures.rules (known (goal.at.returns-in-Some-clause-inside c).In-Some) in
    subst (λ r. (j.last - r.from) / 4 < length t.words)
    (sym c.section-section.ensures.value) s.inside
