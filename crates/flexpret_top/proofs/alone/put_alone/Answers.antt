use Rattle.std.proofs.Common.{◌<◌, ℕ, List, [], length, ap, subst, arith}
use Rattle.std.specs.Prelude.{OnOk, OnErr}
use Rattle.std.specs.Io.KnownBytes.{Appends}
use Rattle.fp_io.specs.Content.{AppendsPrefix}
use Rattle.fp_setup.specs.Settings.{Settings}
use Rattle.solo_run.specs.Solo.{abstract_run_view}
use Rattle.flexpret_top.proofs.AloneCommands.{beside-contents, thread-is}
use Rattle.flexpret_top.proofs.OneThread.{rows-back}
use Rattle.flexpret_top.proofs.alone.put_alone.Goals as goal

pub returns-clause-ok : goal.returns-clause-ok
returns-clause-ok g c =
    let a = c.args.alone in
    let inside : a.view.thread < length c.args.ports.now.items =
    omega (arith, a.rules.thread, c.requires) in
    let thread = thread-is c.setup.inside.threads a.setup a.view.thread c.get.result.now
    c.get.ensures.value (ap (λ (s : Settings). s.threads) c.setup.view_is) in
    let Of : List ℕ → Type 0 = λ text. OnOk c.run-put.result
    (Appends (g.K.Sink.taken c.args.out.now) (g.K.Sink.taken c.run-put.new.out) text) in
    subst Of (beside-contents _ _ a c.args.ports.now.items c.index_mut.result.now c.take.result
    c.get.result.now (abstract_run_view c.new.result []) c.index_mut.ensures.value inside
    c.take.ensures.value thread c.new.ensures.view) c.run-put.ensures.ok

pub returns-clause-err : goal.returns-clause-err
returns-clause-err g c =
    let a = c.args.alone in
    let inside : a.view.thread < length c.args.ports.now.items =
    omega (arith, a.rules.thread, c.requires) in
    let thread = thread-is c.setup.inside.threads a.setup a.view.thread c.get.result.now
    c.get.ensures.value (ap (λ (s : Settings). s.threads) c.setup.view_is) in
    let Of : List ℕ → Type 0 = λ text. OnErr c.run-put.result
    (AppendsPrefix (g.K.Sink.taken c.args.out.now) (g.K.Sink.taken c.run-put.new.out) text) in
    subst Of (beside-contents _ _ a c.args.ports.now.items c.index_mut.result.now c.take.result
    c.get.result.now (abstract_run_view c.new.result []) c.index_mut.ensures.value inside
    c.take.ensures.value thread c.new.ensures.view) c.run-put.ensures.err

pub returns-clause-rows : goal.returns-clause-rows
returns-clause-rows g c =
    let a = c.args.alone in
    let inside : a.view.thread < length c.args.ports.now.items =
    omega (arith, a.rules.thread, c.requires) in
    rows-back _ _ c.args.ports.now.items a.view.thread c.take.new.self c.index_mut.result.now
    c.take.result c.run-put.new.shown.device c.index_mut.ensures.value inside c.take.ensures.value
    c.run-put.ensures.kept
