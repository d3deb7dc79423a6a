use Rattle.std.proofs.Common.{◌+◌, ◌-◌, ◌/◌, ◌%◌, ◌^◌, ℕ, ◌∙◌, ap}
use Rattle.selfrun.specs.Folds.{lower_text, upper_text}
use Rattle.selfrun.specs.Text.{fold_of}
use Rattle.selfrun.proofs.FoldLemmas.{cycle_parts, is_kept}
use Rattle.selfrun.proofs.cycles.Cycles.fold.Goals as goal

pub returns : goal.returns
returns c =
    let first : ℕ = c.self.inside.first in
    let lower : ℕ = (c.args.cycle + (2 ^ 64 - first)) % 2 ^ 64 in
    let inv = c.self.invariant in
    let kept = is_kept c.args.cycle first inv.1 c.requires c.if-lower-ge100.false in
    let begun = c.after.ensures (upper_text 8 (first / 100)) inv.2
    ∙ ap (λ n. fold_of c.args.h (upper_text 8 n)) kept.1 in
    let ended = c.after-2.ensures (lower_text lower) (inv.0 lower c.if-lower-ge100.false)
    ∙ ap (λ n. fold_of c.after.result (lower_text n)) kept.2 in
    cycle_parts c.args.h c.after.result c.after-2.result c.args.cycle kept.0 c.requires begun ended
