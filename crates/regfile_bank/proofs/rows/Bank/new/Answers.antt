use Rattle.std.proofs.Common.{refl}
use Rattle.regfile_bank.proofs.rows.Bank.new.Goals as goal

pub returns : goal.returns
returns c = refl
