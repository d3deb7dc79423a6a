use Rattle.std.proofs.Common.{Some, None, rules, sym, ◌∙◌}
use Rattle.region_guard.specs.RegionsWord.{regions_of}
use Rattle.region_guard.proofs.Allowed.{readable_masks, writable_masks}
use Rattle.region_guard.proofs.Accepted.{accepted_at}
use Rattle.region_guard.proofs.register.Regions.from_word.Goals as goal

pub invariant_of-result : goal.invariant_of-result
invariant_of-result c =
    let readable = rw c.nibbles_of-nibbles.ensures at c.masks_for.ensures in
    let writable = rw c.nibbles_of-nibbles.ensures at c.masks_for-in-None.ensures in (
      sym (accepted_at c.args.word None
          (rw c.nibbles_of-nibbles.ensures at c.in-None.ensures.first)),
      readable ∙ readable_masks c.args.word,
      writable ∙ writable_masks c.args.word,
    )

pub returns-in-Some-clause-accepts : goal.returns-in-Some-clause-accepts
returns-in-Some-clause-accepts c =
    accepted_at c.args.word (Some c.in-Some.index)
    (rw c.nibbles_of-nibbles.ensures at c.in-Some.ensures.first)

pub returns-in-None-clause-accepts : goal.returns-in-None-clause-accepts
returns-in-None-clause-accepts c =
    accepted_at c.args.word None (rw c.nibbles_of-nibbles.ensures at c.in-None.ensures.first)

pub returns-in-Some-clause-regions : goal.returns-in-Some-clause-regions
unfolding regions_of
returns-in-Some-clause-regions c = search rules
