use Rattle.std.proofs.Common.{ℕ, ◌<◌, slice_index_or, []}
use Rattle.bound_calc.specs.Hops.{IsAdvanced}
use Rattle.bound_calc.proofs.advanced.join_advanced.Given as goal

abbrev pub invariant-loop-r : goal.invariant-loop-r
invariant-loop-r l =
    (p : ℕ) → p < 8 → IsAdvanced (slice_index_or l.here.best p []) l.hops.hops l.r
    (slice_index_or l.initial.onto.best p []) (slice_index_or l.onto.best p [])
