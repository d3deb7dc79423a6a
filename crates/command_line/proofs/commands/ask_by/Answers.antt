use Rattle.command_line.proofs.commands.ask_by.Goals as goal

pub returns-in-Run-clause-asked : goal.returns-in-Run-clause-asked
returns-in-Run-clause-asked c = rw c.in-Run.is c.run.ensures.asked

pub returns-in-Run-clause-refused : goal.returns-in-Run-clause-refused
returns-in-Run-clause-refused c = rw c.in-Run.is c.run.ensures.refused

pub returns-in-Run-clause-limits : goal.returns-in-Run-clause-limits
returns-in-Run-clause-limits c = c.run.ensures.limits

pub returns-in-Dump-clause-asked : goal.returns-in-Dump-clause-asked
returns-in-Dump-clause-asked c = rw c.in-Dump.is c.dump.ensures.asked

pub returns-in-Dump-clause-refused : goal.returns-in-Dump-clause-refused
returns-in-Dump-clause-refused c = rw c.in-Dump.is c.dump.ensures.refused

pub returns-in-Dump-clause-limits : goal.returns-in-Dump-clause-limits
returns-in-Dump-clause-limits c = c.dump.ensures.limits

pub returns-in-Asm-clause-asked : goal.returns-in-Asm-clause-asked
returns-in-Asm-clause-asked c = rw c.in-Asm.is c.asm.ensures.asked

pub returns-in-Asm-clause-refused : goal.returns-in-Asm-clause-refused
returns-in-Asm-clause-refused c = rw c.in-Asm.is c.asm.ensures.refused

pub returns-in-Asm-clause-limits : goal.returns-in-Asm-clause-limits
returns-in-Asm-clause-limits c = c.asm.ensures.limits

pub returns-in-Bound-clause-asked : goal.returns-in-Bound-clause-asked
returns-in-Bound-clause-asked c = rw c.in-Bound.is c.bound.ensures.asked

pub returns-in-Bound-clause-refused : goal.returns-in-Bound-clause-refused
returns-in-Bound-clause-refused c = rw c.in-Bound.is c.bound.ensures.refused

pub returns-in-Bound-clause-limits : goal.returns-in-Bound-clause-limits
returns-in-Bound-clause-limits c = c.bound.ensures.limits

pub returns-in-Selfrun-clause-asked : goal.returns-in-Selfrun-clause-asked
returns-in-Selfrun-clause-asked c = rw c.in-Selfrun.is c.selfrun.ensures.asked

pub returns-in-Selfrun-clause-refused : goal.returns-in-Selfrun-clause-refused
returns-in-Selfrun-clause-refused c = rw c.in-Selfrun.is c.selfrun.ensures.refused

pub returns-in-Selfrun-clause-limits : goal.returns-in-Selfrun-clause-limits
returns-in-Selfrun-clause-limits c = c.selfrun.ensures.limits

pub returns-in-Phases-clause-asked : goal.returns-in-Phases-clause-asked
returns-in-Phases-clause-asked c = rw c.in-Phases.is c.phases.ensures.asked

pub returns-in-Phases-clause-refused : goal.returns-in-Phases-clause-refused
returns-in-Phases-clause-refused c = rw c.in-Phases.is c.phases.ensures.refused

pub returns-in-Phases-clause-limits : goal.returns-in-Phases-clause-limits
returns-in-Phases-clause-limits c = c.phases.ensures.limits

pub returns-in-Solo-clause-asked : goal.returns-in-Solo-clause-asked
returns-in-Solo-clause-asked c = rw c.in-Solo.is c.solo.ensures.asked

pub returns-in-Solo-clause-refused : goal.returns-in-Solo-clause-refused
returns-in-Solo-clause-refused c = rw c.in-Solo.is c.solo.ensures.refused

pub returns-in-Solo-clause-limits : goal.returns-in-Solo-clause-limits
returns-in-Solo-clause-limits c = c.solo.ensures.limits

pub returns-in-Check-clause-asked : goal.returns-in-Check-clause-asked
returns-in-Check-clause-asked c = rw c.in-Check.is c.check.ensures.asked

pub returns-in-Check-clause-refused : goal.returns-in-Check-clause-refused
returns-in-Check-clause-refused c = rw c.in-Check.is c.check.ensures.refused

pub returns-in-Check-clause-limits : goal.returns-in-Check-clause-limits
returns-in-Check-clause-limits c = c.check.ensures.limits

pub returns-in-Elf-clause-asked : goal.returns-in-Elf-clause-asked
returns-in-Elf-clause-asked c = rw c.in-Elf.is c.elf.ensures.asked

pub returns-in-Elf-clause-refused : goal.returns-in-Elf-clause-refused
returns-in-Elf-clause-refused c = rw c.in-Elf.is c.elf.ensures.refused

pub returns-in-Elf-clause-limits : goal.returns-in-Elf-clause-limits
returns-in-Elf-clause-limits c = c.elf.ensures.limits

pub returns-in-Calls-clause-asked : goal.returns-in-Calls-clause-asked
returns-in-Calls-clause-asked c = rw c.in-Calls.is c.calls.ensures.asked

pub returns-in-Calls-clause-refused : goal.returns-in-Calls-clause-refused
returns-in-Calls-clause-refused c = rw c.in-Calls.is c.calls.ensures.refused

pub returns-in-Calls-clause-limits : goal.returns-in-Calls-clause-limits
returns-in-Calls-clause-limits c = c.calls.ensures.limits
