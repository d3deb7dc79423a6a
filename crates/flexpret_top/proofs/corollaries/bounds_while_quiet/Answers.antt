use Rattle.flexpret_top.proofs.SimplerPremises.{calls-while-quiet, while-quiet}
use Rattle.flexpret_top.proofs.corollaries.bounds_while_quiet.Goals as goal

pub returns : goal.returns
returns c = record {
  sections =
      while-quiet c.start_is_set.ensures.quiet c.has_same_words.ensures.alike
      c.bounds_while_scheduled.ensures.sections;
  calls =
      calls-while-quiet c.start_is_set.ensures.quiet c.has_same_words.ensures.alike_of_functions
      c.bounds_while_scheduled.ensures.calls;
}
