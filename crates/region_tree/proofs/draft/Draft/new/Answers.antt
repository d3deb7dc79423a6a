use Rattle.std.proofs.Common.{◌+◌, ◌*◌, ◌∙◌, ap, sym, length}
use Rattle.fp_image.specs.Rules.{word}
use Rattle.region_tree.proofs.DraftLaws.{words-length}
use Rattle.region_tree.proofs.draft.Draft.new.Goals as goal

pub from_words-requires-clause-count : goal.from_words-requires-clause-count
from_words-requires-clause-count c =
    words-length (word c.args.image.now) c.args.section c.requires
    ∙ ap (λ l. c.args.section.from + 4 * length l) (sym c.in_ok-words.ensures)
