use Rattle.std.proofs.Common.{◌≡◌, ◌∙◌, [], ap, ap₂, true}
use Rattle.std.proofs.lemmas.Result.{IfOk-weaker}
use Rattle.clap.specs.Built.{AddsArg}
use Rattle.clap.specs.Simple.{app_of_fields, new_app}
use Rattle.clap.specs.Words.{App, with_rule}
use Rattle.clap.specs.declared.builder.command.Command.{Command}
use Rattle.clap.specs.declared.builder.command.Command.TheOpen.{Command-F}
use Rattle.clap.specs.declared.builder.command.Command.TheViews.{out-Command}
use Rattle.fp_setup.specs.Vocabulary.{Text}
use Rattle.command_line.specs.Rules.{shaped}
use Rattle.command_line.proofs.parse.named_command.Goals as goal

-- a new command without options
app_of_new : (old new : Command-F Command) (name : Text) →
    new ≡ record old { no_binary_name = true } → app_of_fields old ≡ new_app name →
    app_of_fields new ≡ shaped name []
app_of_new old new name changed named =
    ap app_of_fields changed
    ∙ ap (λ (a : App). record a { top = record a.top { no_binary_name = true } }) named

pub returns : goal.returns
returns c =
    let command = c.no_binary_name.result in
    let file = c.required_argument-file in
    let named = app_of_new (out-Command c.new.result)
    (out-Command command) c.args.name.now c.no_binary_name.ensures c.new.ensures.app in
    IfOk-weaker c.arg.result (AddsArg command file.result) _ (λ r added.
    added.shape file.ensures.local ∙ ap₂ with_rule named file.ensures.rule) c.arg.ensures
