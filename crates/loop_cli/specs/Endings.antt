-- The faults of a run and of a program, from that of a run in loops.
use Rattle.loop_runs.specs.declared.driver.LoopStop.{LoopStop}
use Rattle.loop_runs.specs.declared.driver.LoopStop.TheVariants.{NoMemory, PutFailed}
use Rattle.loop_commands.specs.Faults.{no_memory}
use Rattle.loop_commands.specs.declared.fault.LoopFault.{LoopFault}
use Rattle.loop_commands.specs.declared.fault.LoopFault.TheVariants.{Write}
use Rattle.loop_cli.specs.declared.fault.RunFault.{RunFault}
use Rattle.loop_cli.specs.declared.fault.RunFault.TheVariants.{Run}

abbrev pub of_run : LoopStop → RunFault
of_run NoMemory = Run no_memory
of_run PutFailed = Run Write

abbrev pub of_stop : LoopStop → LoopFault
of_stop NoMemory = no_memory
of_stop PutFailed = Write
