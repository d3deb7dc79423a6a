-- The machine's remainder is that of the truncated quotient.
use Rattle.std.proofs.Common.{◌≡◌, ap, sym, ◌∙◌, rules}
use Rattle.rv_exec.specs.Words.{word, signed}
use Rattle.rv_exec.proofs.Remainder.{left, left-is}
use Rattle.rv_exec.proofs.muldiv.remain.Goals as goal

pub returns : goal.returns
returns c =
    let x = signed c.args.a in
    let y = signed c.args.b in
    let e : c.cast_unsigned.result ≡ word (left x y) = search rules in
    e ∙ ap word (sym (left-is x y))
