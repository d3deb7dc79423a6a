-- The table of a loop, after each of its keys is read.
use Rattle.std.proofs.Common.{◌≡◌, ℕ, ◌<◌, ◌≤◌, true, rules}
use Rattle.fp_setup.specs.Checks.{is_in}
use Rattle.fp_setup.specs.Loops.{IsLoop}
use Rattle.fp_setup.specs.FaultOrder.{integers, addresses}

-- keys in range give a valid loop
pub is_loop : (size head last limit : ℕ) → is_in (addresses 0 size) head ≡ true →
    is_in (addresses head size) last ≡ true → is_in (integers 0 1048576) limit ≡ true →
    IsLoop (record { head = head; last = last; limit = limit })
is_loop size head last limit is_head is_last is_limit = search rules

pub last_inside : (size head last : ℕ) → 4 ≤ size →
    is_in (addresses head size) last ≡ true → last < size
last_inside size head last low is_last = search rules
