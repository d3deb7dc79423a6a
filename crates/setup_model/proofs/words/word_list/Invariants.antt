-- The words so far.
use Rattle.std.proofs.Common.{◌≡◌, ◌+◌, ◌*◌, map}
use Rattle.std.specs.List.{range_with_len}
use Rattle.fp_image.specs.Rules.{word}
use Rattle.setup_model.proofs.words.word_list.Given as goal

abbrev pub invariant-loop-k : goal.invariant-loop-k
invariant-loop-k l = l.words.items ≡ map (λ k. word l.image (l.base + 4 * k)) (range_with_len 0 l.k)
