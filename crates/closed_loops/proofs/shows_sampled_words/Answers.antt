use Rattle.closed_loops.proofs.Sampling.{sampled-words}
use Rattle.closed_loops.proofs.shows_sampled_words.Goals as goal

pub returns : goal.returns
returns c = sampled-words
