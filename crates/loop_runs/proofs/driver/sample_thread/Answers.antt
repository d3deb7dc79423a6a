use Rattle.std.proofs.Common.{ℕ, suc, ◌<◌, length, sym, ◌∙◌, arith}
use Rattle.machine.specs.WorldRelation.{Refines}
use Rattle.closed_loops.specs.Answered.{with_all_shown}
use Rattle.loop_runs.specs.FedRuns.{fed_start}
use Rattle.loop_runs.specs.Looping.{Looping}
use Rattle.loop_runs.proofs.Steps.{answered-by, map-ok, plantless-by, portless-step, row-some}
use Rattle.loop_runs.proofs.driver.sample_thread.Goals as goal

pub returns-in_default-clause-looping : goal.returns-in_default-clause-looping
returns-in_default-clause-looping g c =
    λ first every s n k some low within at h.
    portless-step first _ every s n (suc k) c.args.thread c.args.machine.now.at c.args.machine.now _
    c.requires.thread at (sym c.latch_of.ensures ∙ c.in_default.is) h

pub returns-in-None-clause-looping : goal.returns-in-None-clause-looping
returns-in-None-clause-looping g c =
    λ first every s n k some low within at h.
    plantless-by first _ _ every s n (suc k) c.args.thread c.args.machine.now.at c.in-Some.drive
    c.step_plant.result c.args.machine.now _ c.requires.thread at c.step_plant.ensures.stepped
    c.in-None.is (row-some _ c.in-Some.drive (sym c.in-Some.is ∙ c.latch_of.ensures)) h

pub returns-in-Some-step_plant-clause-looping : goal.returns-in-Some-step_plant-clause-looping
returns-in-Some-step_plant-clause-looping g c =
    λ first every s n k some low within at h.
    let i : ℕ = c.args.thread in
    let now : ℕ = c.args.machine.now.at in
    let word : ℕ = c.in-Some-step_plant.word in
    let inside : i < length h.shown = omega (arith, c.requires.thread, h.eight) in
    map-ok c.feed_now.result
    (Refines (fed_start (with_all_shown s h.shown) i now word n) now n c.args.machine.now _)
    (Looping first _ every s n (suc k) (suc i) now c.args.machine.now _)
    (c.feed_now.ensures.fed (with_all_shown s h.shown) n inside low within h.refines)
    (λ st. answered-by first _ _ every s n k i now c.in-Some.drive word c.step_plant.result
    c.args.machine.now _ _ c.requires.thread at within some (sym c.in-Some.is ∙ c.latch_of.ensures)
    c.step_plant.ensures.stepped c.in-Some-step_plant.is h st)
