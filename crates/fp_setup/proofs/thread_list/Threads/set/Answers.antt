use Rattle.std.proofs.Common.{rules}
use Rattle.fp_setup.proofs.thread_list.Threads.set.Goals as goal

pub returns : goal.returns
returns c = search rules
