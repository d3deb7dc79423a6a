-- The definitions that each function's proofs open, under one name.
use Rattle.pipe_model.specs.Stages.{fetch_stage, next_after_fetch, memory_stage, words_stored}
use Rattle.pipe_model.specs.Stages.{ports_stored, bank_after, writeback_stage, next_after_redirect}

-- the stage F
unfoldable pub fetching : Type 0
unfolding fetch_stage next_after_fetch
fetching = Unit

-- the stage M
unfoldable pub storing : Type 0
unfolding memory_stage words_stored ports_stored
storing = Unit

-- the stage W
unfoldable pub writing_back : Type 0
unfolding bank_after writeback_stage
writing_back = Unit

-- the next pc of a thread
unfoldable pub redirecting : Type 0
unfolding next_after_redirect
redirecting = Unit
