pub mod Starts
pub mod Retired
pub mod InLoops
pub mod Bounded
