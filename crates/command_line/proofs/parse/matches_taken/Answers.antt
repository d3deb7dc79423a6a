use Rattle.command_line.proofs.parse.matches_taken.Goals as goal

pub returns-in-Ok : goal.returns-in-Ok
returns-in-Ok c = (c.in-Ok.ensures.matches c.requires.simple).0

pub returns-in-Err : goal.returns-in-Err
returns-in-Err c = tt
