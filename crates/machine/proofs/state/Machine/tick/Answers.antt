-- A tick is a run of one cycle.
use Rattle.std.proofs.Common.{rules}
use Rattle.machine.proofs.AdvanceLemmas.{given_ticks}
use Rattle.machine.proofs.RunLemmas.{ticks_given_back, ticks_of_run}
use Rattle.machine.proofs.state.Machine.tick.Goals as goal

pub returns-clause-relation : goal.returns-clause-relation
returns-clause-relation g c s n within st =
    given_ticks s c.args.self.now.at n _ _ c.event-event.result c.self-1.given.0 c.finish.new.self.0
    (ticks_of_run s n c.of-stages.result c.args.self.now c.finish.new.self.0 _ _ _ _
    c.of-stages.ensures c.event-event.ensures.event st
    (λ w here. ticks_given_back s c.args.self.now.at n _ c.last-w.new.self.machine.now
    c.finish.new.self.0 _ _ _ c.finish.ensures.stages c.finish.ensures.same
    (c.last-w.ensures.cycle.relation s n w within here))) (search rules)
