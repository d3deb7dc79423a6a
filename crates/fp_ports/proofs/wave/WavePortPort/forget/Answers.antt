use Rattle.std.proofs.Common.{ℕ, ◌/◌, ◌%◌, Option, List, unwrap_or, ap, ◌∙◌}
use Rattle.fp_ports.specs.declared.feeds.Feed.{Feed}
use Rattle.fp_ports.specs.Kinds.{WaveModel, fed_word, wave_word}
use Rattle.fp_ports.proofs.KeptLemmas.{fed_word-kept}
use Rattle.fp_ports.proofs.wave.WavePortPort.forget.Goals as goal

pub returns-clause-words : goal.returns-clause-words
returns-clause-words c =
    λ at late low.
    ap (λ (feeds : List Feed). unwrap_or (fed_word feeds at) (at / c.self.inside.half % 2))
    c.forget.ensures
    ∙ ap (λ (w : Option ℕ). unwrap_or w (at / c.self.inside.half % 2))
    (fed_word-kept c.self.inside.feeds c.args.before at late)
    ∙ ap (λ (port : WaveModel). wave_word port at) c.self.view_is
