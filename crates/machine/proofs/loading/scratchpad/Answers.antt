use Rattle.std.proofs.Common.{length, ap, ◌/◌, ◌∙◌}
use Rattle.machine.proofs.LoadLemmas.{length-words}
use Rattle.machine.proofs.loading.scratchpad.Goals as goal

pub returns-clause-len : goal.returns-clause-len
returns-clause-len c =
    ap length (c.from_words.ensures ∙ c.in_ok-word_list.ensures)
    ∙ length-words c.args.image.now c.args.base c.size.result ∙ ap (λ n. n / 4) c.size.ensures.size
