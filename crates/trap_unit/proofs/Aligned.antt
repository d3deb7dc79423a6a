-- Writes keep the two low bits of mtvec and mepc 0. The part that a register keeps of a legal value
-- is legal.
use Rattle.std.proofs.Common.{ℕ, arith}
use Rattle.std.specs.Prelude.{IsTrue}
use Rattle.std.proofs.lemmas.Bool.Decides.{nat_tests}
use Rattle.core_model.specs.Csr.{may_hold, legal_value}

-- a register may hold what it keeps of a word that it may hold
pub held_as_kept : (csr value : ℕ) → IsTrue (may_hold csr value) →
    IsTrue (may_hold csr (legal_value csr value))
unfolding may_hold
held_as_kept csr value h = grind (arith, nat_tests)
