use Rattle.closed_loops.proofs.Causal.{past-words}
use Rattle.closed_loops.proofs.depends_on_past_words.Goals as goal

pub returns : goal.returns
returns c = past-words
