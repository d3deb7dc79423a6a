use Rattle.std.proofs.Common.{[], slice_index_or}
use Rattle.core_model.specs.Thread.{reg_in}
use Rattle.machine.proofs.LineLemmas.{eight_read}
use Rattle.machine.proofs.state.Machine.registers_row.Goals as goal

pub returns : goal.returns
returns c =
    eight_read (reg_in (slice_index_or c.args.self.now.units.bank c.args.thread [])) c.args.first
    c.read.result c.read-2.result c.read-3.result c.read-4.result
    c.read-5.result c.read-6.result c.read-7.result c.read-8.result
    c.read.ensures.value c.read-2.ensures.value c.read-3.ensures.value c.read-4.ensures.value
    c.read-5.ensures.value c.read-6.ensures.value c.read-7.ensures.value c.read-8.ensures.value
