use Rattle.slot_table.proofs.Magic.{position_by}
use Rattle.slot_table.proofs.frame.Frame.early_position_of.Goals as goal

pub returns-clause-position : goal.returns-clause-position
returns-clause-position c =
    rw (c.from.ensures, c.from-2.ensures, c.requires.magic)
    (position_by c.args.self.now.len c.args.cycle c.requires.len c.requires.early)
