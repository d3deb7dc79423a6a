use Rattle.selfrun.proofs.FoldLemmas.{store_parts}
use Rattle.selfrun.proofs.line_fold.LineFolder.store.Goals as goal

pub returns : goal.returns
returns c =
    rw (
      c.after.ensures _ c.word-2.ensures,
      c.with_byte-h-2.ensures,
      c.with_byte-3.ensures,
      c.with_byte-h.ensures,
      c.with_byte-2.ensures,
      c.after-h.ensures _ c.word.ensures,
      c.with_byte.ensures,
    )
    (store_parts c.args.h c.args.address c.args.size c.args.value c.requires)
