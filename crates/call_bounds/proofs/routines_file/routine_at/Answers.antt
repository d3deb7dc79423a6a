use Rattle.std.proofs.Common.{◌≡◌, ◌∙◌, Err, Ok, true, false, ap, arith, refl, rules, sym}
use Rattle.call_bounds.specs.RoutinesFile.{is_above, is_placed}
use Rattle.call_bounds.proofs.RoutineLineLaws.{by-checks, in-line, not-too-many, too-many}
use Rattle.call_bounds.proofs.routines_file.routine_at.Goals as goal

pub returns-then-number-gt-MOST_ROUTINES-clause-value :
    goal.returns-then-number-gt-MOST_ROUTINES-clause-value
returns-then-number-gt-MOST_ROUTINES-clause-value c =
    ap Err c.fault.ensures
    ∙ sym (by-checks c.args.size c.args.number c.args.before c.args.line.now true _ _ _
    (too-many c.args.number (omega (arith, c.if-number-gt-MOST_ROUTINES.true)) c.requires.number)
    refl refl refl)

pub returns-then-not-has_form-clause-value : goal.returns-then-not-has_form-clause-value
returns-then-not-has_form-clause-value c =
    ap Err c.fault-then-not-has_form.ensures
    ∙ sym (by-checks c.args.size c.args.number c.args.before c.args.line.now false false _ _
    (not-too-many c.args.number (omega (arith, c.if-number-gt-MOST_ROUTINES.false)))
    (sym c.if-not-has_form.ensures.value) refl refl)

pub returns-then-not-is_placed-clause-value : goal.returns-then-not-is_placed-clause-value
returns-then-not-is_placed-clause-value c =
    let same = in-line c.args.line.now c.number_of.result
    c.number_of-2.result c.number_of.ensures c.number_of-2.ensures in
    ap Err c.fault-then-not-is_placed.ensures
    ∙ sym (by-checks c.args.size c.args.number c.args.before c.args.line.now false true false _
    (not-too-many c.args.number (omega (arith, c.if-number-gt-MOST_ROUTINES.false)))
    (sym c.if-not-has_form.ensures.value)
    (ap (is_placed c.args.size) (sym same) ∙ sym c.if-not-is_placed.ensures) refl)

pub returns-clause-above : goal.returns-clause-above
returns-clause-above c = search rules

pub returns-clause-value : goal.returns-clause-value
returns-clause-value c =
    let same = in-line c.args.line.now c.number_of.result
    c.number_of-2.result c.number_of.ensures c.number_of-2.ensures in
    let above : is_above c.args.before
    (record { head = c.number_of.result; last = c.number_of-2.result }) ≡ true = search rules in
    ap Ok same ∙ sym (by-checks c.args.size c.args.number c.args.before c.args.line.now false true
    true true (not-too-many c.args.number (omega (arith, c.if-number-gt-MOST_ROUTINES.false)))
    (sym c.if-not-has_form.ensures.value) (ap (is_placed c.args.size) (sym same)
    ∙ sym c.if-not-is_placed.ensures) (ap (is_above c.args.before) (sym same) ∙ above))
