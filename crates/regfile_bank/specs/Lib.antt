pub mod Registers
pub mod Kept
