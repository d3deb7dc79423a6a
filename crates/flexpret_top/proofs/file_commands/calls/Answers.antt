use Rattle.std.proofs.Common.{ap, rules}
use Rattle.flexpret_top.proofs.Requesting.{routines-asked}
use Rattle.flexpret_top.proofs.file_commands.calls.Goals as goal

pub returns-in-Ok-calls_bound : goal.returns-in-Ok-calls_bound
returns-in-Ok-calls_bound g c =
    search (
      rules,
      routines-asked (g.F.Files.contents c.args.files.now) c.args.setup.now c.args.thread
          c.args.section c.args.routines.now c.in-Ok.program (g.F.Files.requests c.args.files.now)
          (g.F.Files.requests c.load.new.files) (g.F.Files.requests c.calls_bound.new.files)
          c.in-Ok.ensures.ok c.load.ensures.asked c.in-Ok.ensures.requests
          (λ wrong. ap g.F.Files.requests (c.calls_bound.ensures.refused wrong))
          c.calls_bound.ensures.request,
    )

pub returns-in-Ok : goal.returns-in-Ok
returns-in-Ok g c =
    search (
      rules,
      routines-asked (g.F.Files.contents c.args.files.now) c.args.setup.now c.args.thread
          c.args.section c.args.routines.now c.in-Ok.program (g.F.Files.requests c.args.files.now)
          (g.F.Files.requests c.load.new.files) (g.F.Files.requests c.calls_bound.new.files)
          c.in-Ok.ensures.ok c.load.ensures.asked c.in-Ok.ensures.requests
          (λ wrong. ap g.F.Files.requests (c.calls_bound.ensures.refused wrong))
          c.calls_bound.ensures.request,
    )

pub returns : goal.returns
returns g c = search rules
