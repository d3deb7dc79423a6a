use Rattle.std.proofs.Common.{◌∙◌, ap, map, string_bytes}
use Rattle.clap.specs.Words.{takes, is_simple}
use Rattle.command_line.proofs.Takes.{simple, taken}
use Rattle.command_line.proofs.parse.matches_for.Goals as goal

pub matches_taken-requires-clause-simple : goal.matches_taken-requires-clause-simple
matches_taken-requires-clause-simple c =
    ap is_simple c.in_ok-command_of.ensures
    ∙ simple c.args.name.now (map (λ n. n.now) c.args.options.now)

pub matches_taken-requires-clause-takes : goal.matches_taken-requires-clause-takes
matches_taken-requires-clause-takes c =
    let words = map string_bytes c.args.words.now in
    let names = map (λ n. n.now) c.args.options.now in
    ap (λ a. takes a words) c.in_ok-command_of.ensures
    ∙ taken c.args.name.now names words c.requires.fit c.requires.given
