use Rattle.std.proofs.Common.{◌*◌, refl, rules}
use Rattle.flexpret_top.proofs.OneThread.{compared-file, compared-ok}
use Rattle.flexpret_top.proofs.OneThread.{compared-stop, difference-kept}
use Rattle.flexpret_top.proofs.alone.compare_alone.Goals as goal

pub returns-in-Ok-clause-ok : goal.returns-in-Ok-clause-ok
returns-in-Ok-clause-ok g c =
    let contents = g.F.Files.contents c.args.files.now in
    let is = compared-file contents c.args.trace.now c.deref.result.now c.in-Ok.given.items _
    c.args.alone.cycles (60 * c.args.alone.cycles) c.check_alone.result refl c.in-Ok.ensures.bytes
    c.deref.ensures.value c.check_alone.ensures.prefix c.check_alone.ensures.checked in
    compared-ok contents c.args.trace.now _ c.check_alone.result c.said_by.result is
    c.said_by.ensures.same

pub returns-in-Ok-clause-stop : goal.returns-in-Ok-clause-stop
returns-in-Ok-clause-stop g c =
    let contents = g.F.Files.contents c.args.files.now in
    let is = compared-file contents c.args.trace.now c.deref.result.now c.in-Ok.given.items _
    c.args.alone.cycles (60 * c.args.alone.cycles) c.check_alone.result refl c.in-Ok.ensures.bytes
    c.deref.ensures.value c.check_alone.ensures.prefix c.check_alone.ensures.checked in
    compared-stop contents c.args.trace.now _ c.check_alone.result (g.F.Files.faults
    c.args.files.now)
    (g.F.Files.faults c.fetch.new.files) c.said_by.result is c.said_by.ensures.stop

pub returns-in-Ok-clause-kept : goal.returns-in-Ok-clause-kept
returns-in-Ok-clause-kept g c = difference-kept c.said_by.result _ c.said_by.ensures.difference

pub returns-in-Err : goal.returns-in-Err
returns-in-Err g c = search rules
