use Rattle.std.proofs.Common.{rules}
use Rattle.commands.specs.BoundAnswer.{section_fault}
use Rattle.commands.proofs.bound.section_fault.Goals as goal

pub returns-then-not-names : goal.returns-then-not-names
unfolding section_fault
returns-then-not-names c = search rules

pub returns-then-section : goal.returns-then-section
unfolding section_fault
returns-then-section c = search rules

pub returns-then-section-ne0-2 : goal.returns-then-section-ne0-2
unfolding section_fault
returns-then-section-ne0-2 c = search rules

pub returns-then-section-size : goal.returns-then-section-size
unfolding section_fault
returns-then-section-size c = search rules

pub returns-else-section-size : goal.returns-else-section-size
unfolding section_fault
returns-else-section-size c = search rules
