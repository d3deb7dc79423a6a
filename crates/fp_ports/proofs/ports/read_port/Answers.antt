use Rattle.std.proofs.Common.{◌<◌, length, arith}
use Rattle.fp_ports.proofs.RowLemmas.{rows_stay}
use Rattle.fp_ports.proofs.ports.read_port.Goals as goal

pub returns-clause-rows : goal.returns-clause-rows
returns-clause-rows g c =
    let inside : c.args.thread < length c.args.ports.now.items = omega arith in
    rows_stay _ _ _ _ _ _ c.index_mut.ensures.value inside c.read_entry.ensures.row
