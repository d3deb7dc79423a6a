use Rattle.std.proofs.Common.{rules}
use Rattle.flexpret_top.proofs.AloneCommands.{check-differs, check-same, same-prepares}
use Rattle.flexpret_top.proofs.Requesting.{trace-asked}
use Rattle.flexpret_top.proofs.view_commands.check.Goals as goal

pub returns-in-Ok-compare_alone : goal.returns-in-Ok-compare_alone
returns-in-Ok-compare_alone g c =
    search (
      rules,
      same-prepares (g.F.Files.contents c.args.files.now) c.args.setup.now c.args.thread
          c.args.cycles c.args.trace.now _ _ c.compare_alone.ensures.rows
          (check-same (g.F.Files.contents c.args.files.now)
          (g.F.Files.contents c.load_alone.new.files) c.args.setup.now c.args.thread c.args.cycles
          c.args.trace.now c.in-Ok.alone _ c.load_alone.ensures.contents c.requires.thread
          c.in-Ok.ensures.ok c.in-Ok-compare_alone.ensures.ok),
      trace-asked (g.F.Files.contents c.args.files.now) c.args.setup.now c.args.thread
          c.args.cycles c.args.trace.now c.in-Ok.alone (g.F.Files.requests c.args.files.now)
          (g.F.Files.requests c.load_alone.new.files) (g.F.Files.requests c.compare_alone.new.files)
          c.in-Ok.ensures.cycles c.in-Ok.ensures.ok c.in-Ok.ensures.requests
          c.compare_alone.ensures.request,
    )

pub returns-in-Err-compare_alone : goal.returns-in-Err-compare_alone
returns-in-Err-compare_alone g c =
    search (
      rules,
      check-differs (g.F.Files.contents c.args.files.now)
          (g.F.Files.contents c.load_alone.new.files) c.args.setup.now c.args.thread c.args.cycles
          c.args.trace.now c.in-Ok.alone _ c.load_alone.ensures.contents c.requires.thread
          (g.F.Files.faults c.args.files.now) (g.F.Files.faults c.load_alone.new.files)
          (g.F.Files.faults c.compare_alone.new.files) _ c.load_alone.ensures.counted
          c.in-Ok.ensures.ok c.in-Err-compare_alone.ensures.stop,
      trace-asked (g.F.Files.contents c.args.files.now) c.args.setup.now c.args.thread
          c.args.cycles c.args.trace.now c.in-Ok.alone (g.F.Files.requests c.args.files.now)
          (g.F.Files.requests c.load_alone.new.files) (g.F.Files.requests c.compare_alone.new.files)
          c.in-Ok.ensures.cycles c.in-Ok.ensures.ok c.in-Ok.ensures.requests
          c.compare_alone.ensures.request,
    )

pub returns-in-Err : goal.returns-in-Err
returns-in-Err g c = search rules
