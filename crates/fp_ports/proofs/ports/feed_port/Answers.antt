use Rattle.std.proofs.Common.{◌<◌, length, is_ok, if◌then◌else◌, arith}
use Rattle.fp_ports.specs.PluggedPorts.{fed}
use Rattle.fp_ports.proofs.RowLemmas.{rows_step}
use Rattle.fp_ports.proofs.ports.feed_port.Goals as goal

pub returns-clause-rows : goal.returns-clause-rows
returns-clause-rows g c =
    let inside : c.args.thread < length c.args.ports.now.items = omega arith in
    rows_step _ _ _ _ _ _ c.index_mut.ensures.value inside (λ row. if is_ok c.feed_entry.result
    then fed row c.args.at c.args.word
    else row) c.feed_entry.ensures.row
