-- A cycle preserves the relation to the world.
use Rattle.std.proofs.Common.{ap, ◌∙◌}
use Rattle.pipeline_core.specs.Abstraction.{registers_in}
use Rattle.pipeline_core.proofs.Refining.{kept_as}
use Rattle.pipeline_core.proofs.pipe.Pipe.tick.Goals as goal

pub returns-clause-relation : goal.returns-clause-relation
returns-clause-relation g c s begins shows refines =
    kept_as c.refinement.ensures s c.args.cycle _ _ _ _ _ _ _ c.of-stages.ensures
    (c.pipe.ensures ∙ ap (λ w. registers_in c.tick.new.self w) c.written-w.ensures.stage)
    (rw c.event-event.ensures.event (c.tick.ensures.step c.args.self.now.w)) begins shows refines
