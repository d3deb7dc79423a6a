use Rattle.std.proofs.Common.{◌≡◌, ◌+◌, ◌*◌, map}
use Rattle.std.specs.List.{range_with_len}
use Rattle.call_bounds.specs.Listing.{calls, function_at}
use Rattle.call_bounds.specs.Patched.{patched_word}
use Rattle.call_bounds.proofs.code.Code.function_words.Given as goal

abbrev pub invariant-loop-index : goal.invariant-loop-index
invariant-loop-index l =
    l.words.items
    ≡ map (λ k. patched_word (calls l.self) (function_at l.self l.function)
    (l.section.from + 4 * k))
    (range_with_len 0 l.index)
