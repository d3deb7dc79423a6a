use Rattle.visit_bounds.proofs.CallBounded.{words-of as words-of-functions}
use Rattle.visit_bounds.proofs.CallStarts.{alike-functions}
use Rattle.visit_bounds.proofs.Links.{words-of}
use Rattle.visit_bounds.proofs.Starts.{alike-section}
use Rattle.visit_bounds.proofs.premises.has_same_words.Goals as goal

pub returns : goal.returns
returns c = record {
  host = words-of;
  host_of_functions = words-of-functions;
  alike = alike-section;
  alike_of_functions = alike-functions;
}
