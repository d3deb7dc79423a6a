pub mod Built
pub mod WalkSteps
pub mod Simulation
pub mod Takes
pub mod Counts
pub mod Powers
