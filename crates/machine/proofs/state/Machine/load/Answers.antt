use Rattle.std.proofs.Common.{refl}
use Rattle.machine.specs.declared.state.Machine.{Machine}
use Rattle.machine.proofs.LoadLemmas.{loaded}
use Rattle.machine.proofs.state.Machine.load.Goals as goal

pub returns-clause-refines : goal.returns-clause-refines
returns-clause-refines c =
    let m : Machine = record {
      pipe = c.new.result;
      units = c.in_ok-units.field-0;
      at = 0;
      unplugs = c.unplugs.result;
    } in
    λ ports n eight.
    loaded c.start_refines.ensures c.args.setup.now c.args.image.now ports n m c.entries.result
    c.entries.ensures.eight eight c.new.ensures.stage_registers c.entries.ensures.entries
    (c.in_ok-units.ensures ports) refl c.unplugs.ensures
