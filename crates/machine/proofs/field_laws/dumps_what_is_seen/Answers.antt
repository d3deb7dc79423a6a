use Rattle.machine.proofs.FieldLines.{dumps}
use Rattle.machine.proofs.field_laws.dumps_what_is_seen.Goals as goal

pub returns : goal.returns
returns c = dumps
