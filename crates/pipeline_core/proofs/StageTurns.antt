-- The turns of the stages, by their bytes.
use Rattle.std.proofs.Common.{ℕ, ◌<◌}
use Rattle.pipe_model.specs.declared.stage_registers.Executed.{Executed}
use Rattle.pipe_model.specs.declared.stage_registers.Stored.{Stored}
use Rattle.pipeline_core.specs.Turns.{turn_of}
use Rattle.pipeline_core.specs.StageFacts.{EffectFits, ExecutedFits}
use Rattle.pipeline_core.specs.StageFacts.{StoredFits}
use Rattle.pipeline_core.proofs.Turns.{of_issue}

-- what is known of an issue
pub stored_effect : (turn : ℕ) (x : Stored) → turn < 8 → StoredFits (turn_of turn x) →
    EffectFits x.effect
stored_effect turn x below fits = (rw (of_issue turn x below) at fits).1

pub executed_effect : (turn : ℕ) (x : Executed) → turn < 8 → ExecutedFits (turn_of turn x) →
    EffectFits x.effect
executed_effect turn x below fits = (rw (of_issue turn x below) at fits).1
