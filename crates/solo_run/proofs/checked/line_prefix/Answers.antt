use Rattle.std.proofs.Common.{◌≡◌, length, ap, sym, ◌∙◌, arith, rules}
use Rattle.std.proofs.lemmas.Bool.{false≢true}
use Rattle.solo_run.specs.Text.{event_text}
use Rattle.solo_run.proofs.Compare.{prefix, prefix-nil, starts-part, starts-whole}
use Rattle.solo_run.proofs.checked.line_prefix.Goals as goal

pub returns-in-None-clause-prefix : goal.returns-in-None-clause-prefix
returns-in-None-clause-prefix c =
    sym (prefix-nil c.args.given.now)
    ∙ ap (λ e. prefix c.args.given.now (event_text e)) (sym c.in-None.is)

pub returns-then-starts_with-clause-prefix : goal.returns-then-starts_with-clause-prefix
returns-then-starts_with-clause-prefix c =
    let text : c.as_bytes-bytes.result.now ≡ event_text c.args.event = search rules in
    starts-whole c.args.given.now c.as_bytes-bytes.result.now c.starts_with.result
    c.starts_with.ensures.value c.if-starts_with.true ∙ ap (prefix c.args.given.now) text

pub returns-else-starts_with-clause-part : goal.returns-else-starts_with-clause-part
returns-else-starts_with-clause-part c part =
    let text : c.as_bytes-bytes.result.now ≡ event_text c.args.event = search rules in
    let less = starts-part c.args.given.now c.as_bytes-bytes.result.now
    c.starts_with.result c.starts_with.ensures.value c.if-starts_with.false in
    let same = c.common.ensures.common in
    omega (arith, less, same, ap length text)

pub returns-else-starts_with-clause-all : goal.returns-else-starts_with-clause-all
returns-else-starts_with-clause-all c all = absurd (false≢true all)
