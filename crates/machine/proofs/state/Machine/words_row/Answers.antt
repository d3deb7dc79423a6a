use Rattle.std.proofs.Common.{◌*◌, slice_index_or}
use Rattle.machine.proofs.LineLemmas.{eight_read}
use Rattle.machine.proofs.state.Machine.words_row.Goals as goal

pub returns : goal.returns
returns c =
    eight_read (λ j. slice_index_or c.args.self.now.units.dmem j 0) (8 * c.args.k)
    c.word_at.result c.word_at-2.result c.word_at-3.result c.word_at-4.result
    c.word_at-5.result c.word_at-6.result c.word_at-7.result c.word_at-8.result
    c.word_at.ensures c.word_at-2.ensures c.word_at-3.ensures c.word_at-4.ensures
    c.word_at-5.ensures c.word_at-6.ensures c.word_at-7.ensures c.word_at-8.ensures
