use Rattle.std.proofs.Common.{◌<◌, length, arith}
use Rattle.fp_ports.specs.PluggedPorts.{row_with_word}
use Rattle.fp_ports.proofs.RowLemmas.{rows_step}
use Rattle.fp_ports.proofs.ports.write_port.Goals as goal

pub returns-clause-rows : goal.returns-clause-rows
returns-clause-rows g c =
    let inside : c.args.thread < length c.args.ports.now.items = omega arith in
    rows_step _ _ _ _ _ _ c.index_mut.ensures.value inside
    (λ row. row_with_word row c.args.word) c.write_entry.ensures
