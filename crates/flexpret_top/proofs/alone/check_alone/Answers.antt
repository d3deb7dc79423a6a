use Rattle.std.proofs.Common.{◌<◌, ◌≤◌, ◌*◌, ℕ, nat_eq, List, [], length, ap, subst, arith}
use Rattle.std.specs.List.{common_prefix_len}
use Rattle.fp_setup.specs.Settings.{Settings}
use Rattle.solo_run.specs.FirstDifference.{IsChecked}
use Rattle.solo_run.specs.Solo.{abstract_run_view}
use Rattle.flexpret_top.proofs.AloneCommands.{beside-contents, thread-is}
use Rattle.flexpret_top.proofs.OneThread.{rows-back}
use Rattle.flexpret_top.proofs.alone.check_alone.Goals as goal

pub returns-clause-checked : goal.returns-clause-checked
returns-clause-checked g c =
    let a = c.args.alone in
    let inside : a.view.thread < length c.args.ports.now.items =
    omega (arith, a.rules.thread, c.requires) in
    let thread = thread-is c.setup.inside.threads a.setup a.view.thread c.get.result.now
    c.get.ensures.value (ap (λ (s : Settings). s.threads) c.setup.view_is) in
    let Of : List ℕ → Type 0 = λ text. IsChecked c.args.given.now text c.check-checked.result in
    subst Of (beside-contents _ _ a c.args.ports.now.items c.index_mut.result.now c.take.result
    c.get.result.now (abstract_run_view c.new.result []) c.index_mut.ensures.value inside
    c.take.ensures.value thread c.new.ensures.view) c.check-checked.ensures.checked

pub returns-clause-prefix : goal.returns-clause-prefix
returns-clause-prefix g c =
    let a = c.args.alone in
    let inside : a.view.thread < length c.args.ports.now.items =
    omega (arith, a.rules.thread, c.requires) in
    let thread = thread-is c.setup.inside.threads a.setup a.view.thread c.get.result.now
    c.get.ensures.value (ap (λ (s : Settings). s.threads) c.setup.view_is) in
    let Of : List ℕ → Type 0 =
    λ text. common_prefix_len nat_eq c.args.given.now text ≤ 59 * a.cycles in
    subst Of (beside-contents _ _ a c.args.ports.now.items c.index_mut.result.now c.take.result
    c.get.result.now (abstract_run_view c.new.result []) c.index_mut.ensures.value inside
    c.take.ensures.value thread c.new.ensures.view) c.check-checked.ensures.prefix

pub returns-clause-rows : goal.returns-clause-rows
returns-clause-rows g c =
    let a = c.args.alone in
    let inside : a.view.thread < length c.args.ports.now.items =
    omega (arith, a.rules.thread, c.requires) in
    rows-back _ _ c.args.ports.now.items a.view.thread c.take.new.self c.index_mut.result.now
    c.take.result c.check-checked.new.shown.device c.index_mut.ensures.value inside
    c.take.ensures.value c.check-checked.ensures.kept
