use Rattle.std.proofs.Common.{arith}
use Rattle.call_bounds.specs.Listing.{calls, function_at}
use Rattle.call_bounds.specs.Patched.{patched_word}
use Rattle.region_tree.proofs.DraftLaws.{words-more}
use Rattle.call_bounds.proofs.code.Code.function_words.Goals as goal

pub loop-index-preserved : goal.loop-index-preserved
loop-index-preserved c =
    words-more (patched_word (calls c.args.self.now) (function_at c.args.self.now c.args.function))
    c.range-section.result.from c.loop-index.index c.patched.result c.loop-index.words.items
    c.push.new.self.items c.in_ok-push.ensures.items c.patched.ensures c.loop-index.invariant

pub overflow_sub-index-end : goal.overflow_sub-index-end
overflow_sub-index-end c = let o = c.range-section.ensures.rules.order in omega arith

pub overflow_mul-index : goal.overflow_mul-index
overflow_mul-index c = omega (arith, c.loop-index-test.true, c.range-section.ensures.rules.end)

pub overflow_add-section : goal.overflow_add-section
overflow_add-section c = omega (
  arith,
  c.loop-index-test.true,
  c.range-section.ensures.rules.order,
  c.range-section.ensures.rules.end,
)

pub patched-requires-clause-address : goal.patched-requires-clause-address
patched-requires-clause-address c = omega (
  arith,
  c.loop-index-test.true,
  c.range-section.ensures.rules.order,
  c.range-section.ensures.rules.end,
)
