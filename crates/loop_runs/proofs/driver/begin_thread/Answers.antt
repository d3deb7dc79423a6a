use Rattle.std.proofs.Common.{ℕ, suc, ◌<◌, ◌≤◌, length, arith}
use Rattle.machine.specs.WorldRelation.{Refines}
use Rattle.closed_loops.specs.Answered.{with_all_shown}
use Rattle.loop_runs.specs.FedRuns.{fed_start}
use Rattle.loop_runs.specs.Looping.{Looping}
use Rattle.loop_runs.proofs.Steps.{first-by, map-ok, plantless-first}
use Rattle.loop_runs.proofs.driver.begin_thread.Goals as goal

pub returns-in-Some-clause-looping : goal.returns-in-Some-clause-looping
returns-in-Some-clause-looping g c =
    λ every s n some low h.
    let i : ℕ = c.args.thread in
    let now : ℕ = c.args.machine.now.at in
    let word : ℕ = c.in-Some.word in
    let inside : i < length h.shown = omega (arith, c.requires.thread, h.eight) in
    let within : now ≤ n = omega (arith, c.requires.start) in
    map-ok c.feed_now.result
    (Refines (fed_start (with_all_shown s h.shown) i now word n) now n c.args.machine.now _)
    (Looping _ _ every s n 0 (suc i) now c.args.machine.now _)
    (c.feed_now.ensures.fed (with_all_shown s h.shown) n inside low within h.refines)
    (λ st. first-by _ every s n i now word c.word_of.result c.args.machine.now _ _ c.requires.thread
    c.requires.start some c.word_of.ensures c.in-Some.is h st)

pub returns-in-None-clause-looping : goal.returns-in-None-clause-looping
returns-in-None-clause-looping g c =
    λ every s n some low h.
    plantless-first _ every s n c.args.thread c.args.machine.now.at c.word_of.result
    c.args.machine.now _ c.requires.thread c.requires.start c.word_of.ensures c.in-None.is h
