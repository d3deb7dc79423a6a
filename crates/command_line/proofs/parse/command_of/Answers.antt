use Rattle.std.proofs.Common.{◌∙◌, ◌+◌, ◌<◌, ◌∷◌, [], ap, sym, map}
use Rattle.std.proofs.Common.{drop, length, List, ℕ, Bor, arith}
use Rattle.std.specs.List.{fold}
use Rattle.clap.specs.Words.{App, app_of}
use Rattle.command_line.specs.Rules.{file_rule}
use Rattle.command_line.proofs.Built.{and_option, options_added}
use Rattle.command_line.proofs.Counts.{left_of}
use Rattle.std.proofs.lemmas.Grind.{common_steps}
use Rattle.command_line.proofs.parse.command_of.Goals as goal

pub loop-option-init : goal.loop-option-init
loop-option-init c =
    let names = map (λ n. n.now) c.args.options.now in
    sym (options_added c.args.name.now (file_rule ∷ []) names)
    ∙ ap (λ (a : App). fold and_option a names) (sym c.in_ok-command.ensures)

pub loop-option-preserved : goal.loop-option-preserved
loop-option-preserved c =
    let options = c.args.options.now in
    let i = c.loop-option.option-index in
    let inside : i < length options = omega arith in
    let rest = map (λ n. n.now) (drop (i + 1) options) in
    let split = left_of (λ (n : Bor (List ℕ)). n.now) options i
    (record { ref_ptr = (0, 0); now = [] }) inside in
    c.loop-option.invariant
    ∙ (ap (fold and_option (app_of c.loop-option.command)) split
    ∙ ap (λ (a : App). fold and_option a rest) (sym c.in_ok-command-2.ensures))

pub returns : goal.returns
returns c = grind (arith, common_steps)

pub returns-in_err-command : goal.returns-in_err-command
returns-in_err-command c = grind (arith, common_steps)

pub returns-in_err-command-2 : goal.returns-in_err-command-2
returns-in_err-command-2 c = grind (arith, common_steps)
