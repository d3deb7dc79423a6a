use Rattle.std.proofs.Common.{arith, inl, inr}
use Rattle.std.proofs.lemmas.Grind.{common_steps}
use Rattle.fp_io.proofs.ListedCalls.{sink_after_call, sink_after_fault}
use Rattle.fp_io.proofs.memory_sink.MemSinkSink.put.Goals as goal

pub invariant_of-self : goal.invariant_of-self
invariant_of-self c =
    sink_after_call c.self.inside.bytes.items _ _ _ _ _ _ _ _ (grind (arith, common_steps))
    (grind (arith, common_steps)) c.extend_from_slice.ensures.capacity
    c.saturating_add-self-inside.ensures c.self.invariant (omega arith)

pub returns-then-fitting-bytes-clause-few : goal.returns-then-fitting-bytes-clause-few
returns-then-fitting-bytes-clause-few c = (invariant_of-self c).few

-- the call is cut, or no room is left
pub invariant_of-self-2 : goal.invariant_of-self-2
invariant_of-self-2 c =
    let sound = sink_after_fault c.self.inside.bytes.items _ _ _ _ _ _ _ _
    (grind (arith, common_steps)) (grind (arith, common_steps)) c.extend_from_slice.ensures.capacity
    c.saturating_add-self-inside.ensures c.self.invariant
    (elim c.else-is_none.either [
      | inl h ↦ inr (grind (arith, common_steps))
      | inr h ↦ inl (grind (arith, common_steps))
    ]) in
    rw c.saturating_add-self-inside-2.ensures sound

pub returns-clause-few : goal.returns-clause-few
returns-clause-few c = (invariant_of-self-2 c).few

-- The bytes that are taken.
pub returns-clause-after : goal.returns-clause-after
returns-clause-after c = grind (arith, common_steps)

-- All of the bytes fit.
pub returns-then-fitting-bytes-clause-after : goal.returns-then-fitting-bytes-clause-after
returns-then-fitting-bytes-clause-after c = grind (arith, common_steps)

pub returns-then-fitting-bytes-clause-failed : goal.returns-then-fitting-bytes-clause-failed
returns-then-fitting-bytes-clause-failed c = grind (arith, common_steps)
