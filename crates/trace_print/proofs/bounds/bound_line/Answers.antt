use Rattle.std.proofs.Common.{rules}
use Rattle.trace_print.specs.Bounds.{bound_text}
use Rattle.trace_print.proofs.bounds.bound_line.Goals as goal

pub returns : goal.returns
unfolding bound_text
returns c = search rules
