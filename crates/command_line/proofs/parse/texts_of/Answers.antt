use Rattle.std.proofs.Common.{◌≡◌, rules, map, string_bytes, false}
use Rattle.command_line.specs.Code.{has_forms}
use Rattle.command_line.proofs.Takes.{none_found}
use Rattle.command_line.proofs.parse.texts_of.Goals as goal

pub returns-then-not-gives_each_once-clause-refused :
    goal.returns-then-not-gives_each_once-clause-refused
returns-then-not-gives_each_once-clause-refused c =
    let e : has_forms (map (λ n. n.now) c.args.options.now) (map string_bytes c.args.words.now)
    ≡ false = search rules in
    none_found (map (λ n. n.now) c.args.options.now) (map string_bytes c.args.words.now) e
