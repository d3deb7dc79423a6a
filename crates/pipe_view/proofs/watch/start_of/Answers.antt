use Rattle.std.proofs.Common.{lit<}
use Rattle.pipe_view.proofs.watch.start_of.Goals as goal

pub thread_state-requires-8-clause-thread : goal.thread_state-requires-8-clause-thread
thread_state-requires-8-clause-thread g c = lit< tt
