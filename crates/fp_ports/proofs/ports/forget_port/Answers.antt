use Rattle.std.proofs.Common.{◌<◌, length, arith}
use Rattle.fp_ports.proofs.RowLemmas.{row_forgot, rows_others}
use Rattle.fp_ports.proofs.ports.forget_port.Goals as goal

pub returns-clause-forgot : goal.returns-clause-forgot
returns-clause-forgot g c =
    let inside : c.args.thread < length c.args.ports.now.items = omega arith in
    row_forgot _ _ _ _ _ _ c.index_mut.ensures.value inside c.args.before c.forget_entry.ensures

pub returns-clause-others : goal.returns-clause-others
returns-clause-others g c =
    let inside : c.args.thread < length c.args.ports.now.items = omega arith in
    rows_others _ _ _ _ _ _ c.index_mut.ensures.value inside
