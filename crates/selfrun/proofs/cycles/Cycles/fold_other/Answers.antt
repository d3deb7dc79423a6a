use Rattle.std.proofs.Common.{◌+◌, ◌/◌, ◌%◌, ◌^◌, ◌<◌, ◌≤◌, ℕ, List, [], ◌∷◌, ◌++◌, ◌∙◌, ap, arith}
use Rattle.selfrun.specs.Folds.{lower_text, upper_text}
use Rattle.selfrun.specs.Text.{fold_of}
use Rattle.selfrun.proofs.FoldLemmas.{by_last, cycle_parts}
use Rattle.selfrun.proofs.cycles.Cycles.fold_other.Goals as goal

pub returns-then-cycle-lt100 : goal.returns-then-cycle-lt100
returns-then-cycle-lt100 c =
    let fits : c.args.cycle < 2 ^ 64 = omega (arith, c.ranges.cycle.fits) in
    let upper : List ℕ = upper_text 9 (c.args.cycle / 10) in
    let digits : List ℕ = upper ++ (48 + c.args.cycle % 10) ∷ [] in
    c.after.ensures (digits ++ 32 ∷ [])
    (c.then.ensures digits (c.then-digits.ensures upper c.upper.ensures))
    ∙ ap (fold_of c.args.h) (by_last c.args.cycle fits)

pub returns : goal.returns
returns c =
    let many : 100 ≤ c.args.cycle = omega (arith, c.if-cycle-lt100.false) in
    let last : ℕ = c.args.cycle % 100 in
    let within : last < 100 = omega arith in
    cycle_parts c.args.h c.after-2.result c.after-3.result c.args.cycle many c.requires
    (c.after-2.ensures (upper_text 8 (c.args.cycle / 100)) c.upper-self-inside.ensures)
    (c.after-3.ensures (lower_text last) (c.self.invariant.0 last within))
