use Rattle.fp_elf.proofs.headers.header_at.Goals as goal

pub returns : goal.returns
returns c = rw (
  c.word_at.ensures,
  c.word_at-2.ensures,
  c.word_at-3.ensures,
  c.word_at-4.ensures,
  c.word_at-5.ensures,
)
