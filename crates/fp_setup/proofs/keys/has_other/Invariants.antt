use Rattle.std.proofs.Common.{◌≡◌, map}
use Rattle.toml.specs.View.{table_view}
use Rattle.fp_setup.specs.FaultOrder.{has_other_key}
use Rattle.fp_setup.proofs.Lists.{any_other}
use Rattle.fp_setup.proofs.keys.has_other.Given as goal

abbrev pub invariant-loop-key : goal.invariant-loop-key
invariant-loop-key l =
    any_other (map (λ k. k.now) l.keys) l.key-iterator
    ≡ has_other_key (map (λ k. k.now) l.keys) (table_view l.table)
