use Rattle.std.proofs.Common.{ap, ◌++◌, ◌∙◌}
use Rattle.trace_print.specs.Digits.{right}
use Rattle.trace_print.proofs.InPlace.{stands, kept_from}
use Rattle.trace_print.proofs.event_line.set_upper.Goals as goal

pub returns-then-cycle-lt-SAME-clause-text : goal.returns-then-cycle-lt-SAME-clause-text
returns-then-cycle-lt-SAME-clause-text c =
    let is = c.as_bytes.ensures.value ∙ c.deref.ensures.0 ∙ c.push_right.ensures.text
    ∙ ap (λ before. before ++ right 10 c.args.cycle) c.new-digits.ensures in
    stands c.set_text.new.text _ c.args.cycle c.requires.cycle c.set_text.ensures is

pub returns-else-cycle-lt-SAME-clause-text : goal.returns-else-cycle-lt-SAME-clause-text
returns-else-cycle-lt-SAME-clause-text c =
    let is = c.as_bytes.ensures.value ∙ c.deref.ensures.0 ∙ c.push_right.ensures.text
    ∙ ap (λ before. before ++ right 10 c.args.cycle) c.new-digits.ensures in
    stands c.set_text.new.text _ c.args.cycle c.requires.cycle c.set_text.ensures is

pub returns-else-cycle-lt-SAME-clause-kept : goal.returns-else-cycle-lt-SAME-clause-kept
returns-else-cycle-lt-SAME-clause-kept c =
    let is = c.as_bytes.ensures.value ∙ c.deref.ensures.0 ∙ c.push_right.ensures.text
    ∙ ap (λ before. before ++ right 10 c.args.cycle) c.new-digits.ensures in
    kept_from c.args.cycle c.set_text.new.text
    (stands c.set_text.new.text _ c.args.cycle c.requires.cycle c.set_text.ensures is)
    c.if-cycle-lt-SAME.false c.requires.cycle
