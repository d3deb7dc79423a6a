use Rattle.std.proofs.Common.{◌<◌, Option, [], length, subst, arith}
use Rattle.loop_runs.specs.Plants.{IsWord, Response}
use Rattle.loop_runs.proofs.PlantLemmas.{response_read}
use Rattle.loop_runs.proofs.plants.word_of.Goals as goal

pub returns : goal.returns
returns g c =
    let inside : c.args.thread < length c.args.plants.now.items = omega arith in
    subst (λ (o : Option Response). IsWord o [] c.word_in.result)
    (response_read _ _ _ c.index.result.now c.index.result.now c.index.ensures inside)
    c.word_in.ensures
