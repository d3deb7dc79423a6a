-- A value that is moved to its lane fits in the word, since the address is aligned.
use Rattle.std.proofs.Common.{◌%◌, rules, arith}
use Rattle.rv_exec.proofs.ByteLanes.{byte_fits, half_fits, half_mask_fits}
use Rattle.rv_exec.proofs.access.store_lanes.Goals as goal

pub in_lanes-requires-clause-value : goal.in_lanes-requires-clause-value
in_lanes-requires-clause-value c = byte_fits (c.args.address % 4) _ (omega arith) (search rules)

pub in_lanes-requires-in-Sh-clause-mask : goal.in_lanes-requires-in-Sh-clause-mask
in_lanes-requires-in-Sh-clause-mask c = half_mask_fits (c.args.address % 4) (omega arith)

pub in_lanes-requires-in-Sh-clause-value : goal.in_lanes-requires-in-Sh-clause-value
in_lanes-requires-in-Sh-clause-value c =
    let aligned = rw c.in-Sh.is at c.requires in
    half_fits (c.args.address % 4) _ (omega arith) (omega arith) (search rules)
