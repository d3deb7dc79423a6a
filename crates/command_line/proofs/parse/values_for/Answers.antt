use Rattle.std.proofs.Common.{◌∙◌, ap, sym, map, string_bytes, Some}
use Rattle.std.proofs.lemmas.Result.{IfOk-weaker}
use Rattle.command_line.proofs.Takes.{texts_found}
use Rattle.command_line.proofs.parse.values_for.Goals as goal

pub returns : goal.returns
returns c =
    let words = map string_bytes c.args.words.now in
    let names = map (λ n. n.now) c.args.options.now in
    let found = texts_found c.args.name.now names words _
    c.requires.fit c.requires.given c.in_ok-matches.ensures in
    IfOk-weaker c.values_of.result _ _ (λ v e. found ∙ ap Some (sym e)) c.values_of.ensures
