use Rattle.std.proofs.Common.{◌∙◌, List, ℕ}
use Rattle.std.specs.Str.{bytes_eq}
use Rattle.clap.proofs.WalkLemmas.{list_any-map}
use Rattle.command_line.proofs.form.has_name.Goals as goal

pub returns : goal.returns
returns c =
    c.contains.ensures.value
    ∙ list_any-map (λ (n : List ℕ). bytes_eq n c.args.name.now) (λ n. n.now) c.args.options.now
