use Rattle.std.proofs.Common.{◌∙◌, sym}
use Rattle.pipeline_core.proofs.Turns.{of_issue, of_flushed, of_bubble}
use Rattle.pipeline_core.proofs.stage_register.StageRegister.of.Goals as goal

pub returns-in-Bubble : goal.returns-in-Bubble
returns-in-Bubble g c = of_bubble c.args.blank ∙ sym c.in-Bubble.is

pub returns-in-Flushed : goal.returns-in-Flushed
returns-in-Flushed g c =
    of_flushed c.in-Flushed.thread c.args.blank (rw c.in-Flushed.is at c.requires)
    ∙ sym c.in-Flushed.is

pub returns-in-Issue : goal.returns-in-Issue
returns-in-Issue g c =
    of_issue c.in-Issue.thread c.in-Issue.what (rw c.in-Issue.is at c.requires)
    ∙ sym c.in-Issue.is
