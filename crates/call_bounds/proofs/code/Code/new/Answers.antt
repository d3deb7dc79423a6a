use Rattle.fp_image.specs.Rules.{word}
use Rattle.call_bounds.proofs.CodeLaws.{scratchpad-length}
use Rattle.call_bounds.proofs.code.Code.new.Goals as goal

pub invariant_of-result : goal.invariant_of-result
invariant_of-result c = record {
  listing = record {
    section = c.requires;
    routines = c.in_ok-routines.ensures.rules;
    loops = c.in_ok-loops.ensures.rules;
  };
  words = scratchpad-length (word c.args.image.now) c.in_ok-words.words.items c.in_ok-words.ensures;
}

pub returns-clause-rules : goal.returns-clause-rules
returns-clause-rules c = record {
  section = c.requires;
  routines = c.in_ok-routines.ensures.rules;
  loops = c.in_ok-loops.ensures.rules;
}
