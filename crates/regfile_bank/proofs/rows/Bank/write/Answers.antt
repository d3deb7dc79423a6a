use Rattle.std.proofs.Common.{[], ◌<◌, length, get_or, arith}
use Rattle.regfile_bank.proofs.Kept.{registers_at, length-registers}
use Rattle.regfile_bank.proofs.Kept.{write_rows, length-written, kept_at_x0}
use Rattle.regfile_bank.proofs.rows.Bank.write.Goals as goal

pub returns-then-x-ne0-clause-row : goal.returns-then-x-ne0-clause-row
returns-then-x-ne0-clause-row c =
    let inside : c.args.thread < length c.self.inside.rows = omega arith in
    rw (← c.self.view_is) (write_rows c.self.inside.rows c.args.thread c.args.x c.args.v
    c.self.invariant inside c.if-x-ne0.true)

pub returns-then-x-ne0-clause-words : goal.returns-then-x-ne0-clause-words
returns-then-x-ne0-clause-words c =
    let inside : c.args.thread < length c.self.inside.rows = omega arith in
    length-written c.self.inside.rows c.args.thread c.args.x c.args.v c.self.invariant inside
    c.if-x-ne0.true

pub returns-else-x-ne0-clause-row : goal.returns-else-x-ne0-clause-row
returns-else-x-ne0-clause-row c =
    kept_at_x0 c.args.self.now c.args.thread c.args.x c.args.v c.if-x-ne0.false

pub returns-else-x-ne0-clause-words : goal.returns-else-x-ne0-clause-words
returns-else-x-ne0-clause-words c =
    let inside : c.args.thread < length c.self.inside.rows = omega arith in
    let row = get_or c.self.inside.rows c.args.thread [] in
    rw (← c.self.view_is, registers_at c.self.inside.rows c.args.thread)
    (length-registers row (c.self.invariant c.args.thread [] inside))
