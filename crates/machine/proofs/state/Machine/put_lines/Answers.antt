use Rattle.std.proofs.Common.{◌<◌, ◌+◌, ◌/◌, arith}
use Rattle.std.proofs.lemmas.Result.{err_from_is_err_and}
use Rattle.fp_ports.specs.PluggedPorts.{rows_of}
use Rattle.machine.specs.Fields.{dump_line}
use Rattle.pipeline_core.specs.Abstraction.{abstract_stages, abstract_state}
use Rattle.machine.proofs.Putting.{line_taken, line_begun}
use Rattle.machine.proofs.state.Machine.put_lines.Goals as goal

pub loop-number-preserved : goal.loop-number-preserved
loop-number-preserved g c =
    let rows = rows_of (λ b. (goal.Port-dyn g (b.vtable, b.value)).latched b.value)
    (λ b. (goal.Port-dyn g (b.vtable, b.value)).word_at b.value) c.args.ports.now.items in
    let m = c.args.self.now in
    record {
      put =
          line_taken (g.K.Sink.taken c.args.out.now)
          (g.K.Sink.taken c.loop-number.out) (g.K.Sink.taken c.put_line.new.out)
          (dump_line (abstract_stages m.pipe) (abstract_state m.units rows) m.at)
          c.loop-number.number c.loop-number.invariant.put c.in_ok-put_line.ensures.ok;
      counted = omega (arith, c.loop-number.invariant.counted, c.put_line.ensures.counted);
    }

pub returns-in_err-put_line-clause-err : goal.returns-in_err-put_line-clause-err
returns-in_err-put_line-clause-err g c =
    let rows = rows_of (λ b. (goal.Port-dyn g (b.vtable, b.value)).latched b.value)
    (λ b. (goal.Port-dyn g (b.vtable, b.value)).word_at b.value) c.args.ports.now.items in
    let m = c.args.self.now in
    let within : c.loop-number.number < 66 + m.units.guard.size / 32 =
    omega (arith, c.loop-number-test.true) in
    let p = err_from_is_err_and c.from_residual.result c.from_residual.ensures.1 in
    rw p.1 (line_begun (g.K.Sink.taken c.args.out.now) (g.K.Sink.taken c.loop-number.out)
    (g.K.Sink.taken c.put_line.new.out) (dump_line (abstract_stages m.pipe)
    (abstract_state m.units rows) m.at) c.loop-number.number (66 + m.units.guard.size / 32)
    within c.loop-number.invariant.put c.in_err-put_line.ensures.err)
