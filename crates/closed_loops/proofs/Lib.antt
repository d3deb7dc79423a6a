mod Rows
pub mod Causal
mod Alone
mod PhasedAlone
pub mod Closed
mod Inputs
pub mod Latches
pub mod Sampling
