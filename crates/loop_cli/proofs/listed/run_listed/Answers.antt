use Rattle.loop_cli.proofs.Responses.{with-responses}
use Rattle.loop_cli.proofs.listed.run_listed.Goals as goal

pub returns-in-Ok-clause-looped : goal.returns-in-Ok-clause-looped
returns-in-Ok-clause-looped g c =
    λ n reach low.
    with-responses _ _ _ _ _ _ _ _ _ _ _ _ _ _ c.in_ok-plants.ensures.responses
    (c.in-Ok.ensures.looped n reach low)
