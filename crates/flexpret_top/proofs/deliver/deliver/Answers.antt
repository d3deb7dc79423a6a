use Rattle.std.proofs.Common.{rules}
use Rattle.flexpret_top.proofs.deliver.deliver.Goals as goal

pub returns-in-Trace : goal.returns-in-Trace
returns-in-Trace g c = search rules

pub returns-in-Dump : goal.returns-in-Dump
returns-in-Dump g c = search rules

pub returns-in-Phases : goal.returns-in-Phases
returns-in-Phases g c = search rules

pub returns-in-Solo : goal.returns-in-Solo
returns-in-Solo g c = search rules

pub returns-in-Same : goal.returns-in-Same
returns-in-Same g c = search rules

pub returns-in-Image : goal.returns-in-Image
returns-in-Image g c = search rules

pub returns-in-Bound : goal.returns-in-Bound
returns-in-Bound g c = search rules

pub returns-in-Selfrun : goal.returns-in-Selfrun
returns-in-Selfrun g c = search rules
