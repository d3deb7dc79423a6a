use Rattle.std.proofs.Common.{◌≡◌, rules, length, arith}
use Rattle.std.proofs.lemmas.Grind.{common_steps}
use Rattle.std.specs.List.{position_or_len}
use Rattle.command_line.specs.Forms.{is_equals}
use Rattle.command_line.proofs.Counts.{no_equals}
use Rattle.command_line.proofs.form.option_form_of.Goals as goal

pub returns-in-None : goal.returns-in-None
returns-in-None c =
    let none : position_or_len is_equals c.args.rest.now ≡ length c.args.rest.now = search rules in
    let parts = no_equals c.args.rest.now none in
    grind (arith, common_steps)

pub returns-in-Some : goal.returns-in-Some
returns-in-Some c = grind (arith, common_steps)

pub returns-in_default : goal.returns-in_default
returns-in_default c = grind (arith, common_steps)
