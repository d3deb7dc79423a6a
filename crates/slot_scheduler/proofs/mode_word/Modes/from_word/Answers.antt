-- An accepted word, and its masks.
use Rattle.std.proofs.Common.{◌∙◌}
use Rattle.slot_scheduler.specs.ModeWord.{mode_list, threads_that}
use Rattle.slot_scheduler.proofs.Masks.{soft_of}
use Rattle.slot_scheduler.proofs.mode_word.Modes.from_word.Goals as goal

pub invariant_of-result : goal.invariant_of-result
unfolding threads_that
invariant_of-result c =
    let active = rw c.modes_of-modes.ensures at c.threads_of.ensures in
    let soft = rw c.modes_of-modes.ensures at c.threads_of-then-word-lt65536.ensures in
    (c.if-word-lt65536.true, active, soft ∙ soft_of (mode_list c.args.word))
