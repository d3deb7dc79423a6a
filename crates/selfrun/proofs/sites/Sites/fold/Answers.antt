use Rattle.std.proofs.Common.{◌+◌, ◌*◌, ◌/◌, ◌%◌, ◌<◌, ℕ, slice_index_or, ◌∙◌, ap, arith}
use Rattle.selfrun.specs.declared.sites.Site.{Site}
use Rattle.selfrun.specs.Folds.{site_text}
use Rattle.selfrun.specs.Text.{fold_of}
use Rattle.selfrun.proofs.sites.Sites.fold.Goals as goal

pub returns : goal.returns
returns c =
    let index : ℕ = c.from.result * 128 + c.args.pc / 4 % 128 in
    let within : index < 1024 = omega (arith, c.from.ensures, c.requires) in
    let site : Site = slice_index_or c.self.inside.kept index
    (record { pc = 0; word = 0; piece = record { weight = 0; sum = 0 } }) in
    c.after.ensures (site_text site.pc site.word) (c.self.invariant index within)
    ∙ ap (λ pc. fold_of c.args.h (site_text pc site.word)) c.if-site-pc.false
    ∙ ap (λ word. fold_of c.args.h (site_text c.args.pc word)) c.if-site-word.false
