-- A turn of the thread makes its line, and a turn of another one doesn't.
use Rattle.std.proofs.Common.{◌-◌, ap, ◌∙◌}
use Rattle.machine.proofs.LineObserving.{other_turn_next, other_turn_puts, own_turn_next}
use Rattle.machine.proofs.LineObserving.{own_turn_puts, with_text}
use Rattle.machine.proofs.thread_lines.ThreadLinesObserver.retire.Goals as goal

pub returns-then-turn-self-clause-state : goal.returns-then-turn-self-clause-state
returns-then-turn-self-clause-state c =
    ap (with_text c.args.self.now) c.set_line.ensures.line
    ∙ own_turn_next c.args.self.now (c.args.cycle - 4) c.args.turn.now.turn c.args.turn.now.what
    c.if-turn-self.true

pub returns-then-turn-self-clause-bytes : goal.returns-then-turn-self-clause-bytes
returns-then-turn-self-clause-bytes c =
    rw (c.set_line.ensures.event, c.set_line.ensures.line)
    (own_turn_puts c.args.self.now (c.args.cycle - 4) c.args.turn.now.turn c.args.turn.now.what
    c.if-turn-self.true)

pub returns-else-turn-self-clause-state : goal.returns-else-turn-self-clause-state
returns-else-turn-self-clause-state c =
    other_turn_next c.args.self.now (c.args.cycle - 4) c.args.turn.now.turn c.args.turn.now.what
    c.if-turn-self.false

pub returns-else-turn-self-clause-bytes : goal.returns-else-turn-self-clause-bytes
returns-else-turn-self-clause-bytes c =
    other_turn_puts c.args.self.now (c.args.cycle - 4) c.args.turn.now.turn c.args.turn.now.what
    c.if-turn-self.false
