use Rattle.std.proofs.Common.{◌≡◌, ℕ, ◌<◌, ◌≤◌, ◌⊎◌, slice_index_or, None, Some}
use Rattle.bound_calc.proofs.advanced.largest_row.Given as goal

abbrev pub invariant-loop-q : goal.invariant-loop-q
invariant-loop-q l = record {
  stays : l.most ≤ l.largest;
  upper : (k d : ℕ) → k < l.q → slice_index_or l.row k None ≡ Some d → d ≤ l.largest;
  met : (l.largest ≡ l.most)
      ⊎ ((k : ℕ) × (k < l.q) × (slice_index_or l.row k None ≡ Some l.largest));
}
