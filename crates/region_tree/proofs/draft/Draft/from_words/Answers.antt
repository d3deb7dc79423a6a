use Rattle.region_tree.proofs.DraftLaws.{draft-with}
use Rattle.region_tree.proofs.draft.Draft.from_words.Goals as goal

pub invariant_of-result : goal.invariant_of-result
invariant_of-result c =
    draft-with c.args.section c.as_slice.result.now c.args.words.items c.in_ok-loops.loops.items
    c.requires.count c.in_ok-loops.ensures c.requires.section c.as_slice.ensures.rules
