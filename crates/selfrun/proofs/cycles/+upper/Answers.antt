use Rattle.std.proofs.Common.{◌≡◌, ◌-◌, ◌<◌, ◌^◌, arith}
use Rattle.selfrun.proofs.FoldLemmas.{upper_none, upper_more}
use Rattle.selfrun.proofs.cycles.+upper.Goals as goal

pub returns-then-tens-eq0 : goal.returns-then-tens-eq0
returns-then-tens-eq0 n c =
    let none : c.args.tens ≡ 0 = omega (arith, c.if-tens-eq0.true) in
    upper_none c.blanks.result c.args.width c.args.tens none c.blanks.ensures

pub returns : goal.returns
returns n c =
    let fits : c.args.tens < 2 ^ 64 = omega (arith, c.ranges.tens.fits) in
    let some : 0 < c.args.tens = omega (arith, c.if-tens-eq0.false) in
    let less : c.saturating_sub.result ≡ c.args.width - 1 =
    omega (arith, c.saturating_sub.ensures) in
    upper_more c.then.result c.args.width c.saturating_sub.result c.args.tens fits some less
    (c.then.ensures _ c.upper.ensures)
