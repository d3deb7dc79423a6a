-- A table without used slots is valid.
use Rattle.slot_table.specs.Nibbles.{nibbles}
use Rattle.slot_table.specs.Table.{is_table}
use Rattle.solo_run.proofs.Accepted.{accepted}
use Rattle.solo_run.proofs.thread_state.idle.Goals as goal

pub unwrap-requires : goal.unwrap-requires
unfolding nibbles is_table
unwrap-requires c = accepted _ c.from_word.ensures.accepts
