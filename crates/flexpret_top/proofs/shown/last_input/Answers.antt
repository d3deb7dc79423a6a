use Rattle.std.proofs.Common.{ap, find, leb, reverse, ◌∙◌, rules}
use Rattle.std.proofs.lemmas.List.Sorted.{IsPartitionPoint-from_clause, IsPartitionedBy-leb}
use Rattle.fp_setup.specs.declared.input_list.Input.{Input}
use Rattle.flexpret_top.proofs.OneThread.{last-found, no-later}
use Rattle.flexpret_top.proofs.shown.last_input.Goals as goal

pub returns : goal.returns
returns c =
    let parted = IsPartitionedBy-leb (λ (input : Input). input.at) _ c.args.at
    (no-later _ c.as_slice-inputs.ensures.rules) in
    let point = IsPartitionPoint-from_clause (λ (input : Input). leb input.at c.args.at)
    _ _ c.partition_point-past.ensures.partitioned parted (λ a r q k. search rules) in
    let early = λ (input : Input). leb input.at c.args.at in
    c.last.ensures.value
    ∙ last-found early _ _ c.partition_point-past.ensures.bound point.0 point.1
    ∙ ap (λ inputs. find early (reverse inputs)) c.as_slice-inputs.ensures.value
