pub mod PortWords
pub mod PluggedPorts
pub mod ShownWords
pub mod Kinds
pub mod Ramp
