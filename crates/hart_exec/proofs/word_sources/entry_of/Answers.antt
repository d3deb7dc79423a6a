-- Two adjacent fields.
use Rattle.hart_exec.proofs.WordSources.{key_at}
use Rattle.hart_exec.proofs.word_sources.entry_of.Goals as goal

pub returns : goal.returns
returns c = key_at c.args.word
