use Rattle.call_bounds.proofs.PlainRowsLaws.{rows-name-plain-edges}
use Rattle.call_bounds.proofs.plain_rows.refusals_name_plain_edges.Goals as goal

pub returns : goal.returns
returns c = rows-name-plain-edges
