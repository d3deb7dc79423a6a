use Rattle.std.proofs.Common.{rules}
use Rattle.flexpret_top.proofs.prepare.prepare.Goals as goal

pub returns-in-Run : goal.returns-in-Run
returns-in-Run g c = search rules

pub returns-in-Dump : goal.returns-in-Dump
returns-in-Dump g c = search rules

pub returns-in-Asm : goal.returns-in-Asm
returns-in-Asm g c = search rules

pub returns-in-Bound : goal.returns-in-Bound
returns-in-Bound g c = search rules

pub returns-in-Selfrun : goal.returns-in-Selfrun
returns-in-Selfrun g c = search rules

pub returns-in-Phases : goal.returns-in-Phases
returns-in-Phases g c = search rules

pub returns-in-Solo : goal.returns-in-Solo
returns-in-Solo g c = search rules

pub returns-in-Check : goal.returns-in-Check
returns-in-Check g c = search rules

pub returns-in-Elf : goal.returns-in-Elf
returns-in-Elf g c = search rules

pub returns-in-Calls : goal.returns-in-Calls
returns-in-Calls g c = search rules
