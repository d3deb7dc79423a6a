use Rattle.std.proofs.Common.{◌≡◌, ◌∙◌, ap}
use Rattle.trace_print.specs.Digits.{hex}
use Rattle.selfrun.specs.Folds.{name_text}
use Rattle.selfrun.specs.Text.{fold_of}
use Rattle.selfrun.proofs.FoldLemmas.{register_parts}
use Rattle.selfrun.proofs.line_fold.LineFolder.register.Goals as goal

pub returns : goal.returns
returns c =
    let named : c.after-h.result ≡ fold_of c.args.h (name_text c.args.rd) =
    c.after-h.ensures (name_text c.args.rd)
    (rw c.from.ensures (c.self.invariant c.args.rd c.requires)) in
    c.after.ensures (hex 8 c.args.value) c.word.ensures
    ∙ ap (λ x. fold_of x (hex 8 c.args.value)) named
    ∙ register_parts c.args.h c.args.rd c.args.value
