pub mod StageFacts
pub mod Turns
pub mod Retiring
pub mod Abstraction
pub mod Executing
pub mod YoungerStages
pub use Rattle.core_model.specs.Delays
pub use Rattle.core_model.specs.Memory
pub use Rattle.core_model.specs.Thread
pub use Rattle.core_model.specs.declared.own.Own
pub use Rattle.fp_ports.specs.PluggedPorts
pub use Rattle.hart_exec.specs.Effects as HartExecEffects
pub use Rattle.hart_exec.specs.Units as HartUnits
pub use Rattle.pipe_model.specs.PipelineLaws
pub use Rattle.pipe_model.specs.Relation
pub use Rattle.pipe_model.specs.Stages
pub use Rattle.pipe_model.specs.declared.stage_registers.Held
pub use Rattle.region_guard.specs.Regions
pub use Rattle.rv_exec.specs.declared.outcome.Effect
pub use Rattle.slot_scheduler.specs.Picking
pub use Rattle.timer_unit.specs.Time
pub use Rattle.core_model.specs.World
pub use Rattle.rv_exec.specs.Line
pub use Rattle.pipe_model.specs.declared.stage_registers.Written
