pub mod Watching
pub use Rattle.fp_ports.specs.PluggedPorts
pub use Rattle.machine.specs.WorldRelation
pub use Rattle.pipe_model.specs.declared.stage_registers.Held
pub use Rattle.timer_unit.specs.Time
