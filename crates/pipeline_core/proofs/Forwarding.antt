-- Registers, with the values in flight.
use Rattle.std.proofs.Common.{◌≡◌, ◌≢◌, ℕ, ◌-◌, ◌<◌, nat_lt, Bool, true, false}
use Rattle.std.proofs.Common.{List, [], Some, None, length, refl, arith}
use Rattle.std.specs.Prelude.{if◌then◌else◌, Option, ◌==◌, slice_index_or, slice_set}
use Rattle.std.proofs.lemmas.Bool.Decides.{nat_tests}
use Rattle.std.proofs.lemmas.List.{length-set}
use Rattle.core_model.specs.Thread.{reg_in}
use Rattle.rv_exec.specs.declared.outcome.Effect.{Effect}
use Rattle.rv_exec.specs.declared.outcome.Effect.TheVariants.{Nothing, Reg, Store, Csr, Trap, Wait}
use Rattle.pipe_model.specs.declared.stage_registers.Held.{Held}
use Rattle.pipe_model.specs.declared.stage_registers.Held.TheVariants.{Bubble, Flushed, Issue}
use Rattle.pipe_model.specs.declared.stage_registers.Executed.{Executed}
use Rattle.pipe_model.specs.declared.stage_registers.Stored.{Stored}
use Rattle.pipe_model.specs.Forwarding.{forward, from_m, operand}
use Rattle.pipeline_core.specs.Turns.{turn_of}
use Rattle.pipeline_core.proofs.Turns.{of_issue}

-- the number of registers stays
forward-length : (e : Option Effect) (regs : List ℕ) → length (forward e regs) ≡ length regs
forward-length None regs = refl
forward-length (Some Nothing) regs = refl
forward-length (Some (Reg rd value)) regs = go (rd == 0)
  where
    go : (b : Bool) → length (if b then regs else slice_set regs (rd - 1) value) ≡ length regs
    go true = refl
    go false = length-set regs (rd - 1) value
forward-length (Some (Store x y z)) regs = refl
forward-length (Some (Csr n x y z)) regs = refl
forward-length (Some (Trap x y)) regs = refl
forward-length (Some Wait) regs = refl

pub from_m_length : (k : ℕ) (m : Held Stored) (regs : List ℕ) →
    length (from_m k m regs) ≡ length regs
from_m_length k Bubble regs = refl
from_m_length k (Flushed j) regs = refl
from_m_length k (Issue j x) regs = go (j == k)
  where
    go : (b : Bool) → length (if b then forward x.effect regs else regs) ≡ length regs
    go true = forward-length x.effect regs
    go false = refl

-- the turn of a thread in M forwards, and no other one does
pub m_forwards : (k turn : ℕ) (x : Stored) (regs : List ℕ) → turn ≡ k → k < 8 →
    from_m k (turn_of turn x) regs ≡ forward x.effect regs
m_forwards k turn x regs same below = rw (of_issue turn x (omega arith), tested) refl
  where
    tested : (turn == k) ≡ true
    tested = grind (arith, nat_tests)

pub m_passes : (k turn : ℕ) (x : Stored) (regs : List ℕ) → turn ≢ k →
    from_m k (turn_of turn x) regs ≡ regs
unfolding turn_of
m_passes k turn x regs other = go (nat_lt turn 8) (nat_lt turn 16)
  where
    tested : (turn == k) ≡ false
    tested = grind (arith, nat_tests)

    go : (a b : Bool) →
        from_m k (if a then Issue turn x else if b then Flushed (turn - 8) else Bubble) regs ≡ regs
    go true b = rw tested refl
    go false true = refl
    go false false = refl

-- so does the turn of a thread in E
pub e_forwards : (bank : List (List ℕ)) (m : Held Stored) (k turn : ℕ) (what : Executed) (x v : ℕ) →
    turn ≡ k → k < 8 →
    v ≡ reg_in (forward what.effect (from_m k m (slice_index_or bank k []))) x →
    v ≡ operand bank m (turn_of turn what) k x
e_forwards bank m k turn what x v same below h = rw (of_issue turn what (omega arith), tested) h
  where
    tested : (turn == k) ≡ true
    tested = grind (arith, nat_tests)

pub e_passes : (bank : List (List ℕ)) (m : Held Stored) (k turn : ℕ) (what : Executed) (x v : ℕ) →
    turn ≢ k → v ≡ reg_in (from_m k m (slice_index_or bank k [])) x →
    v ≡ operand bank m (turn_of turn what) k x
unfolding turn_of
e_passes bank m k turn what x v other h = go (nat_lt turn 8) (nat_lt turn 16)
  where
    tested : (turn == k) ≡ false
    tested = grind (arith, nat_tests)

    go : (a b : Bool) → v ≡ operand bank m
        (if a then Issue turn what else if b then Flushed (turn - 8) else Bubble) k x
    go true b = rw tested h
    go false true = h
    go false false = h
