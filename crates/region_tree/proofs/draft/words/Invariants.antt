use Rattle.std.proofs.Common.{◌≡◌, ◌+◌, ◌*◌, map}
use Rattle.std.specs.List.{range_with_len}
use Rattle.fp_image.specs.Rules.{word}
use Rattle.region_tree.proofs.draft.words.Given as goal

abbrev pub invariant-loop-index : goal.invariant-loop-index
invariant-loop-index l =
    l.words.items ≡ map (λ k. word l.image (l.section.from + 4 * k)) (range_with_len 0 l.index)
