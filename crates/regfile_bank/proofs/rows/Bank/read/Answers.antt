use Rattle.std.proofs.Common.{[], ◌<◌, length, get_or, arith}
use Rattle.regfile_bank.proofs.Kept.{registers_at, length-registers, read_row}
use Rattle.regfile_bank.proofs.rows.Bank.read.Goals as goal

pub returns : goal.returns
returns c =
    let inside : c.args.thread < length c.self.inside.rows = omega arith in
    let row = get_or c.self.inside.rows c.args.thread [] in
    let is = c.self.invariant c.args.thread [] inside in
    rw (← c.self.view_is, registers_at c.self.inside.rows c.args.thread)
    (record { value = read_row row c.args.x is; words = length-registers row is })
