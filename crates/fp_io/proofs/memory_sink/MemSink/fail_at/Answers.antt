use Rattle.fp_io.proofs.ListedCalls.{sink_with}
use Rattle.fp_io.proofs.memory_sink.MemSink.fail_at.Goals as goal

pub invariant_of-self-2 : goal.invariant_of-self-2
invariant_of-self-2 c =
    rw c.in_ok-push.ensures.items (sink_with _ _ _ _ _ _ _ c.requires c.self.invariant)

pub returns-clause-few : goal.returns-clause-few
returns-clause-few c = (invariant_of-self-2 c).few
