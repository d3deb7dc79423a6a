use Rattle.pipe_model.proofs.Showing.{shows}
use Rattle.pipe_model.proofs.shows_turns.Goals as goal

pub returns : goal.returns
returns c = shows
