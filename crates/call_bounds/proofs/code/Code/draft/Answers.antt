use Rattle.call_bounds.specs.Calls.{range}
use Rattle.call_bounds.specs.Listing.{calls, function_at}
use Rattle.call_bounds.specs.Patched.{patched_word}
use Rattle.call_bounds.proofs.CodeLaws.{function-words}
use Rattle.call_bounds.proofs.code.Code.draft.Goals as goal

pub from_words-requires-clause-count : goal.from_words-requires-clause-count
from_words-requires-clause-count c =
    let x = calls c.args.self.now in
    let p = function_at c.args.self.now c.args.function in
    function-words (patched_word x p) c.range-section.result (range x p) c.in_ok-words.words.items
    c.range-section.ensures.rules c.range-section.ensures.value c.in_ok-words.ensures
