use Rattle.std.proofs.Common.{rules}
use Rattle.command_line.proofs.form.has_plain_form.Goals as goal

pub returns-in-None : goal.returns-in-None
returns-in-None c = search rules
