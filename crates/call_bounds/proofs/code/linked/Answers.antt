use Rattle.std.proofs.Common.{ap, sym, ◌∙◌}
use Rattle.rv_decode.specs.Table.{ins}
use Rattle.call_bounds.proofs.LinkLaws.{link-jump, link-none, link-other}
use Rattle.call_bounds.proofs.code.linked.Goals as goal

pub returns-then-rd-eq1 : goal.returns-then-rd-eq1
returns-then-rd-eq1 c =
    ap (λ e. e.jump) c.edges_of.ensures ∙ link-jump c.args.address c.args.word c.in-Jal.rd
    c.in-Jal.off (sym c.in-Jal.ensures.table) c.if-rd-eq1.true

pub returns-else-rd-eq1 : goal.returns-else-rd-eq1
returns-else-rd-eq1 c =
    link-other c.args.address c.args.word c.in-Jal.rd c.in-Jal.off
    (sym c.in-Jal.ensures.table) c.if-rd-eq1.false

pub returns-in_default : goal.returns-in_default
returns-in_default c =
    link-none c.args.address (ins c.args.word)
    (λ rd off e. c.in_default.not-Jal rd off (c.decode.ensures.table ∙ e))
