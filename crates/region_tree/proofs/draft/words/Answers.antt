use Rattle.fp_image.specs.Rules.{word}
use Rattle.region_tree.proofs.DraftLaws.{words-more}
use Rattle.region_tree.proofs.draft.words.Goals as goal

pub loop-index-preserved : goal.loop-index-preserved
loop-index-preserved c =
    words-more (word c.args.image.now) c.args.section.from c.loop-index.index c.code_word.result
    c.loop-index.words.items c.push.new.self.items c.in_ok-push.ensures.items c.code_word.ensures
    c.loop-index.invariant
