use Rattle.std.proofs.Common.{ℕ}
use Rattle.loop_runs.specs.Looping.{HasLooped, Looping}
use Rattle.loop_runs.proofs.Steps.{map-ok}
use Rattle.loop_runs.proofs.Runs.{begins-looped}
use Rattle.loop_runs.proofs.driver.begin_loops.Goals as goal

pub returns-clause-looped : goal.returns-clause-looped
returns-clause-looped g c =
    λ every s n thread contents some low st.
    let now : ℕ = c.args.machine.now.at in
    map-ok c.begin_all.result (Looping _ _ every s n 0 8 now c.args.machine.now _)
    (HasLooped _ _ every s n 0 8 now thread c.args.machine.now _ contents contents)
    (c.begin_all.ensures.looping every s n some low st)
    (λ h. begins-looped _ every s n now thread c.args.machine.now _ contents c.requires.start h)
