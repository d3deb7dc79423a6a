use Rattle.std.proofs.Common.{sym}
use Rattle.pipeline_core.proofs.Turns.{of_issue, of_flushed_byte, of_bubble_byte}
use Rattle.pipeline_core.proofs.stage_register.StageRegister.held.Goals as goal

pub returns-then-self-lt-FLUSHED : goal.returns-then-self-lt-FLUSHED
returns-then-self-lt-FLUSHED g c =
    sym (of_issue c.args.self.now.turn c.args.self.now.what c.if-self-lt-FLUSHED.true)

pub returns-then-self-lt-BUBBLE : goal.returns-then-self-lt-BUBBLE
returns-then-self-lt-BUBBLE g c =
    sym (of_flushed_byte c.args.self.now.turn c.args.self.now.what c.if-self-lt-FLUSHED.false
    c.if-self-lt-BUBBLE.true)

pub returns-else-self-lt-BUBBLE : goal.returns-else-self-lt-BUBBLE
returns-else-self-lt-BUBBLE g c =
    sym (of_bubble_byte c.args.self.now.turn c.args.self.now.what c.if-self-lt-BUBBLE.false)
