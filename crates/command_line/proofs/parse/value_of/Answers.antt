use Rattle.std.proofs.Common.{◌∙◌, ap, refl, unwrap_or, [], List, ℕ, Option, Bor}
use Rattle.clap.specs.Words.{found_of}
use Rattle.clap.proofs.WalkLemmas.{first_value-rows}
use Rattle.command_line.proofs.Counts.{text_or}
use Rattle.command_line.proofs.parse.value_of.Goals as goal

pub returns : goal.returns
returns c =
    let found =
    c.get_str.ensures ∙ first_value-rows (found_of c.args.matches.now) c.args.name.now in
    ap (λ (b : Bor (List ℕ)). b.now) c.unwrap_or.ensures
    ∙ (text_or c.get_str.result _ refl ∙ ap (λ (o : Option (List ℕ)). unwrap_or o []) found)
