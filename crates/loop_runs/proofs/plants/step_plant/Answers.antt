use Rattle.std.proofs.Common.{◌<◌, length, arith}
use Rattle.loop_runs.proofs.PlantLemmas.{stepped}
use Rattle.loop_runs.proofs.plants.step_plant.Goals as goal

pub returns-clause-stepped : goal.returns-clause-stepped
returns-clause-stepped g c =
    let inside : c.args.thread < length c.args.plants.now.items = omega arith in
    stepped _ _ _ _ _ c.index_mut.ensures.value inside c.args.drive c.step_entry.result
    c.step_entry.ensures.continues c.step_entry.ensures.word
