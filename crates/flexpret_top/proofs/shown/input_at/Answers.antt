use Rattle.std.proofs.Common.{◌≡◌, option_map, option_copied, ap, ◌∙◌, rules}
use Rattle.fp_setup.specs.declared.input_list.Input.{Input}
use Rattle.flexpret_top.proofs.OneThread.{last-word}
use Rattle.flexpret_top.proofs.shown.input_at.Goals as goal

pub returns : goal.returns
returns c =
    let word : c.map.result
    ≡ option_map (λ (input : Input). input.word) (option_copied c.last_input.result) =
    search rules in
    word ∙ ap (option_map (λ (input : Input). input.word)) c.last_input.ensures
    ∙ last-word c.args.inputs.now c.args.at
