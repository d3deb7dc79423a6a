pub mod Loads
pub mod Bounds
pub use Rattle.flexpret_top.specs.PluggedPorts
