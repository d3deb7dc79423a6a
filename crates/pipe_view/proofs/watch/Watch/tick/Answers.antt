use Rattle.pipe_view.proofs.Beside.{tick_beside, left_beside}
use Rattle.pipe_view.proofs.watch.Watch.tick.Goals as goal

pub returns-clause-relation : goal.returns-clause-relation
returns-clause-relation g c =
    tick_beside c.args.machine.now _ _ _ _ _ c.start_of.ensures.rows c.tick-event.ensures.retires
    c.tick-event.ensures.relation

pub returns-clause-words : goal.returns-clause-words
returns-clause-words g c = left_beside _ _ _ c.start_of.ensures.rows c.tick-event.ensures.words
