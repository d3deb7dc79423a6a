use Rattle.std.proofs.Common.{◌∙◌, ap, Some}
use Rattle.std.proofs.lemmas.Result.{IfOk-weaker}
use Rattle.clap.specs.Built.{AddsArg}
use Rattle.clap.specs.Walk.{Rule, rule_of}
use Rattle.clap.specs.Words.{app_of, with_rule}
use Rattle.clap.specs.declared.builder.arg.Arg.{Arg}
use Rattle.command_line.proofs.parse.with_option.Goals as goal

pub returns : goal.returns
returns c =
    let option = c.long.result in
    let rule = ap rule_of c.long.ensures ∙ ap
    (λ (r : Rule). record r { long = Some c.args.name.now }) c.required_argument.ensures.rule in
    let local = ap (λ (x : Arg). x.global) c.long.ensures ∙ c.required_argument.ensures.local in
    IfOk-weaker c.arg.result (AddsArg c.args.command option) _
    (λ r added. added.shape local ∙ ap (with_rule (app_of c.args.command)) rule) c.arg.ensures
